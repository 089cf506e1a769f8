use mathlib.Core.Path.{refl, sym}
use Rattle.bounded.specs.Choice.{told}
use Rattle.outcome.specs.Result.{given_back, number_positive}
use Rattle.sizes.specs.Lists.{list_facts}
use Rattle.rules.specs.laws.Chains.{erase_own}
use Rattle.rules.proofs.laws.Chains.{erase_chain, judged_refuses, judged_passes}
use Rattle.volume.specs.Held.{passed}
use Rattle.collect.proofs.may_erase.Goals as goal

pub returns-in_err-judged : goal.returns-in_err-judged
returns-in_err-judged c = rw (given_back c.from_residual.result c.from_residual.ensures.1) (judged_refuses _ _ _ _ _ _ _ _ _ (erase_chain _ _ _ _ _) refl _ c.in_err-judged.ensures (number_positive _))

pub list_ok-requires : goal.list_ok-requires
list_ok-requires c = (passed _ _ _ (sym c.in_ok-judged.ensures)).spans.bounds.slots_most

pub returns-then-not-list_ok : goal.returns-then-not-list_ok
unfolding erase_own
returns-then-not-list_ok c = judged_passes _ _ _ _ _ _ _ _ _ (erase_chain _ _ _ _ _) refl _ c.in_ok-judged.ensures refl
    (rw (told c.list_ok.ensures c.if-not-list_ok.true))

pub may_erase_all-requires : goal.may_erase_all-requires
may_erase_all-requires c = record { passed = passed _ _ _ (sym c.in_ok-judged.ensures); listed = list_facts _ _ (told c.list_ok.ensures c.if-not-list_ok.false) }

pub returns-then-not-may_erase_all : goal.returns-then-not-may_erase_all
unfolding erase_own
returns-then-not-may_erase_all c = judged_passes _ _ _ _ _ _ _ _ _ (erase_chain _ _ _ _ _) refl _ c.in_ok-judged.ensures refl
    (rw (told c.list_ok.ensures c.if-not-list_ok.false, told c.may_erase_all.ensures c.if-not-may_erase_all.true))

pub returns : goal.returns
unfolding erase_own
returns c = judged_passes _ _ _ _ _ _ _ _ _ (erase_chain _ _ _ _ _) refl _ c.in_ok-judged.ensures refl
    (rw (told c.list_ok.ensures c.if-not-list_ok.false, told c.may_erase_all.ensures c.if-not-may_erase_all.false))

-- Each return is a refusal without a slot, or the slot that the search found.
use Prim.Native.Nat.{ℕ, ◌<◌, ◌≤◌}
use mathlib.Core.Path.{◌≡◌, refl, sym, ap, ◌∙◌}
use mathlib.Core.Bool.{Bool}
use Rattle.bounded.specs.Below.{first_below}
use Rattle.bounded.specs.Choice.{on_lt}
use Rattle.bounded.specs.Limits.{no_number}
use Rattle.outcome.specs.Reply.{outcome_of}
use Rattle.outcome.specs.Result.{given_back, number_positive, refused, done}
use Rattle.outcome.specs.declared.Refusal.TheVariants.{NothingToErase}
use Rattle.rules.specs.Volume.{volume}
use Rattle.rules.specs.Suggest.{suggestible, suggested_slot, suggest_outcome}
use Rattle.rules.specs.laws.Chains.{suggest_own}
use Rattle.rules.proofs.laws.Chains.{suggest_chain, judged_refuses, judged_passes}
use Rattle.permit.specs.Prepared.{judged_linkable}
use Rattle.judge.specs.JudgeLaws.{found_some, found_none}
use Rattle.volume.specs.Held.{passed}
use Rattle.collect.proofs.suggest.Goals as goal

pub returns-in_err-judged : goal.returns-in_err-judged
unfolding suggest_outcome
returns-in_err-judged c = rw (given_back c.from_residual.result c.from_residual.ensures.1)
    (refused no_number _ (tt {0}) (tt {0}) _ (judged_refuses _ _ _ _ _ _ _ _ _ (suggest_chain _ _ _) refl _ (rw c.new-volume.ensures at c.in_err-judged.ensures) (number_positive _)))

pub first_erasable-requires : goal.first_erasable-requires
first_erasable-requires c = let p = passed _ _ _ (sym (rw c.new-volume.ensures at c.in_ok-judged.ensures)) in
    record { linkable = judged_linkable _ _ _ _ p.spans p.table; pages_in_bounds = p.spans.pages_in_lem; slots_in_bounds = p.slots_in_bounds }

pub returns-in_default : goal.returns-in_default
unfolding suggest_own suggested_slot suggest_outcome
returns-in_default c = let a = c.args in
    let may : ℕ → Bool = suggestible a.sizes (volume a.words.now a.contents.now a.state.now) in
    let none : ¬ (first_below a.sizes.slots may < a.sizes.slots) = rw c.in_default.is at c.first_erasable.ensures in
    let behind : a.sizes.slots ≤ first_below a.sizes.slots may = on_lt (first_below a.sizes.slots may) a.sizes.slots (λ h. absurd (none h)) (λ h. h) in
    refused no_number _ (tt {0}) (tt {0}) NothingToErase
    (judged_passes _ _ _ _ _ _ _ _ _ (suggest_chain _ _ _) refl _ (rw c.new-volume.ensures at c.in_ok-judged.ensures) refl
    (rw (found_none a.sizes.slots may (first_below a.sizes.slots may) refl behind)))

pub returns : goal.returns
unfolding suggest_own suggested_slot suggest_outcome
returns c = let a = c.args in
    let may : ℕ → Bool = suggestible a.sizes (volume a.words.now a.contents.now a.state.now) in
    let some : (first_below a.sizes.slots may < a.sizes.slots) × (c.in-Some.slot ≡ first_below a.sizes.slots may) = rw c.in-Some.is at c.first_erasable.ensures in
    ap (λ (slot : ℕ). outcome_of 0 slot (tt {0})) some.1 ∙ done no_number _ (tt {0}) (tt {0})
    (judged_passes _ _ _ _ _ _ _ _ _ (suggest_chain _ _ _) refl _ (rw c.new-volume.ensures at c.in_ok-judged.ensures) refl
    (rw (found_some a.sizes.slots may (first_below a.sizes.slots may) refl some.0)))

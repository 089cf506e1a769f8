use mathlib.Core.Path.{sym, ◌∙◌}
use native.Mathlib.Omega.{arith}
use Rattle.bounded.specs.Choice.{told}
use Rattle.outcome.specs.Result.{given_back, refuses, passes}
use Rattle.rules.specs.laws.Chains.{launch_own}
use Rattle.rules.proofs.laws.Chains.{launch_chain, state_judged_passed}
use Rattle.flight.specs.Accepted.{listed_pages}
use Rattle.flight.proofs.may_launch.Goals as goal

pub returns-in_err-judged : goal.returns-in_err-judged
returns-in_err-judged c = rw (given_back c.from_residual.result c.from_residual.ensures.1) (refuses _ _ c.in_err-judged.ensures ∙ sym (launch_chain _ _ _ _))

pub list_ok-requires : goal.list_ok-requires
list_ok-requires c = let b = (state_judged_passed _ _ _ (sym c.in_ok-judged.ensures)).bounds in omega arith

pub returns-then-not-list_ok : goal.returns-then-not-list_ok
unfolding launch_own
returns-then-not-list_ok c = passes _ c.in_ok-judged.ensures (rw (told c.list_ok.ensures c.if-not-list_ok.true)) ∙ sym (launch_chain _ _ _ _)

pub may_fly-requires : goal.may_fly-requires
may_fly-requires c = listed_pages _ _ _ (state_judged_passed _ _ _ (sym c.in_ok-judged.ensures)).fitting (told c.list_ok.ensures c.if-not-list_ok.false)

pub returns : goal.returns
unfolding launch_own
returns c = passes _ c.in_ok-judged.ensures (rw (told c.list_ok.ensures c.if-not-list_ok.false) c.may_fly.ensures) ∙ sym (launch_chain _ _ _ _)

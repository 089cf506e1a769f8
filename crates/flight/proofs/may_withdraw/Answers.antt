use native.Mathlib.Omega.{arith}
use mathlib.Core.Path.{sym, ap, ◌∙◌}
use borrow.Author.Tests.{lt-ltb, le-ltb}
use Rattle.bounded.specs.Choice.{told}
use Rattle.outcome.specs.Result.{given_back, refuses, passes}
use Rattle.sizes.proofs.SizesLaws.{state_fits_exactly}
use Rattle.state.specs.State.{in_flight}
use Rattle.rules.specs.laws.Chains.{withdraw_own}
use Rattle.rules.proofs.laws.Chains.{withdraw_chain, state_judged_passed}
use Rattle.flight.proofs.may_withdraw.Goals as goal

pub returns-in_err-judged : goal.returns-in_err-judged
returns-in_err-judged c = rw (given_back c.from_residual.result c.from_residual.ensures.1) (refuses _ _ c.in_err-judged.ensures ∙ sym (withdraw_chain _ _ _ _))

pub returns-then-page-sizes : goal.returns-then-page-sizes
unfolding withdraw_own
returns-then-page-sizes c = passes _ c.in_ok-judged.ensures (rw (le-ltb _ _ c.if-page-sizes.true)) ∙ sym (withdraw_chain _ _ _ _)

pub page_at-requires : goal.page_at-requires
page_at-requires c = let e = (state_fits_exactly _ _).0 (state_judged_passed _ _ _ (sym c.in_ok-judged.ensures)).fitting in omega arith

pub returns-then-not-in_flight : goal.returns-then-not-in_flight
unfolding withdraw_own
returns-then-not-in_flight c = passes _ c.in_ok-judged.ensures
    (rw (lt-ltb _ _ c.if-page-sizes.false, told (c.in_flight.ensures ∙ ap in_flight c.page_at.ensures) c.if-not-in_flight.true))
    ∙ sym (withdraw_chain _ _ _ _)

pub returns : goal.returns
unfolding withdraw_own
returns c = passes _ c.in_ok-judged.ensures
    (rw (lt-ltb _ _ c.if-page-sizes.false, told (c.in_flight.ensures ∙ ap in_flight c.page_at.ensures) c.if-not-in_flight.false))
    ∙ sym (withdraw_chain _ _ _ _)

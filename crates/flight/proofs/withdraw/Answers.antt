use mathlib.Core.Path.{sym, ap, ◌∙◌}
use mathlib.Core.List.{List}
use Prim.Native.Nat.{ℕ}
use Rattle.outcome.specs.Reply.{outcome_of}
use Rattle.outcome.specs.Result.{given_back, refused, done}
use Rattle.rules.specs.Withdraw.{withdraw_outcome}
use Rattle.flight.specs.Accepted.{withdraw_accepted, withdraw_leaves}
use Rattle.flight.proofs.withdraw.Goals as goal

pub returns-in_err-may_withdraw : goal.returns-in_err-may_withdraw
unfolding withdraw_outcome
returns-in_err-may_withdraw c = rw (given_back c.from_residual.result c.from_residual.ensures.1) (refused 0 0 _ _ _ c.in_err-may_withdraw.ensures)

pub withdraw_cycle-requires : goal.withdraw_cycle-requires
withdraw_cycle-requires c = withdraw_accepted _ _ _ _ (sym c.in_ok-may_withdraw.ensures)

pub returns : goal.returns
unfolding withdraw_outcome
returns c = ap (outcome_of {B = List ℕ} 0 0) (c.withdraw_cycle.ensures ∙ withdraw_leaves _ _ _ _ (sym c.in_ok-may_withdraw.ensures))
    ∙ done 0 0 _ _ c.in_ok-may_withdraw.ensures

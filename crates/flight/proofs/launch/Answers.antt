use mathlib.Core.Path.{sym, ap, ◌∙◌}
use mathlib.Core.List.{List}
use Prim.Native.Nat.{ℕ}
use Rattle.outcome.specs.Reply.{outcome_of}
use Rattle.outcome.specs.Result.{given_back, refused, done}
use Rattle.rules.specs.Launch.{launch_outcome}
use Rattle.flight.specs.Accepted.{launch_accepted, launch_leaves}
use Rattle.flight.proofs.launch.Goals as goal

pub returns-in_err-may_launch : goal.returns-in_err-may_launch
unfolding launch_outcome
returns-in_err-may_launch c = rw (given_back c.from_residual.result c.from_residual.ensures.1) (refused 0 0 _ _ _ c.in_err-may_launch.ensures)

pub launch_pages-requires : goal.launch_pages-requires
launch_pages-requires c = let a = launch_accepted _ _ _ _ (sym c.in_ok-may_launch.ensures) in (a.sized, a.launchable)

pub returns : goal.returns
unfolding launch_outcome
returns c = ap (outcome_of {B = List ℕ} 0 0) (c.launch_pages.ensures ∙ launch_leaves _ _ _ _ (sym c.in_ok-may_launch.ensures))
    ∙ done 0 0 _ _ c.in_ok-may_launch.ensures

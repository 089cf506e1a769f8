-- `state::nexts_apart` meets its contract. The loop's invariant: every page below the counter is apart from those below it.
use mathlib.Core.Path.{◌≡◌}
use mathlib.Core.Bool.{true, not}
use Rattle.bounded.specs.Below.{all_below}
use Rattle.state.specs.State.{share_next, state_at}
use Rattle.state.proofs.nexts_apart.Given as goal

abbrev pub invariant-loop-page : goal.invariant-loop-page
invariant-loop-page l = all_below l.page (λ p. all_below p (λ q. not (share_next (state_at l.state q) (state_at l.state p)))) ≡ true

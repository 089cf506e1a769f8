-- `state::next_apart` meets its contract. The loop's invariant: no page below the counter shares the next page.
use mathlib.Core.Path.{◌≡◌}
use mathlib.Core.Bool.{true, not}
use Rattle.bounded.specs.Below.{all_below}
use Rattle.state.specs.State.{share_next, state_at}
use Rattle.state.proofs.next_apart.Given as goal

abbrev pub invariant-loop-lower : goal.invariant-loop-lower
invariant-loop-lower l = all_below l.lower (λ q. not (share_next (state_at l.state q) (state_at l.state l.page))) ≡ true

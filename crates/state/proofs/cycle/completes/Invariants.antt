-- `state::cycle::completes` meets its contract. The loop's invariant: the pages from behind the page up to the walk's are written. The measure: the steps left of the lap.
use Rattle.state.specs.State.{state_at}
use Rattle.state.specs.Walk.{pages_in, left, Searching}
use Rattle.state.proofs.cycle.completes.Given as goal

abbrev pub invariant-loop-at : goal.invariant-loop-at
invariant-loop-at l = Searching (pages_in l.state) l.state l.page l.at

abbrev pub decreases-loop-at : goal.decreases-loop-at
decreases-loop-at l = left (pages_in l.state) (state_at l.state) (state_at l.state l.page).next l.at

-- `state::cycle::end_cycle` meets its contract. The loop's invariant: the pages from the page up to the walk's have left flight. The measure: the steps left of the lap.
use Rattle.state.specs.State.{state_at}
use Rattle.state.specs.Walk.{pages_in, left, ended_page, Walking}
use Rattle.state.proofs.cycle.end_cycle.Given as goal

abbrev pub invariant-loop-at : goal.invariant-loop-at
invariant-loop-at l = Walking (ended_page l.commits) (pages_in l.initial.state) l.initial.state l.page l.state l.at

abbrev pub decreases-loop-at : goal.decreases-loop-at
decreases-loop-at l = left (pages_in l.initial.state) (state_at l.initial.state) l.page l.at

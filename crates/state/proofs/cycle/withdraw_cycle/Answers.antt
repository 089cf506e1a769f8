-- `state::cycle::withdraw_cycle` meets its contract. The cycle ends without committing.
use Rattle.state.specs.Change.{withdrawn}
use Rattle.state.specs.Walk.{ended_page, cycle_ended}
use Rattle.state.proofs.cycle.withdraw_cycle.Goals as goal

pub returns : goal.returns
unfolding withdrawn cycle_ended ended_page
returns c = c.end_cycle.ensures

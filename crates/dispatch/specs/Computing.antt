-- A name for "these definitions compute": a declaration that unfolds it unfolds them all.
use Rattle.atomicity.specs.Call.{with_state, with_flash, perform}
use Rattle.dispatch.specs.Dispatch.{lost, accepted, line_outcome}

unfoldable pub computing : Unit {0}
unfolding with_state with_flash perform lost accepted line_outcome
computing = tt

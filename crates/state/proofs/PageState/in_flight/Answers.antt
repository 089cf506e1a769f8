-- `state::PageState::in_flight` meets its contract. The test is the definition.
use mathlib.Core.Path.{refl}
use Rattle.state.specs.State.{in_flight}
use Rattle.state.proofs.PageState.in_flight.Goals as goal

pub returns : goal.returns
unfolding in_flight
returns c = refl

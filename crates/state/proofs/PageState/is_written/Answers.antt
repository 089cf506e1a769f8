-- `state::PageState::is_written` meets its contract. The test is the definition.
use mathlib.Core.Path.{refl}
use Rattle.state.specs.State.{is_written}
use Rattle.state.proofs.PageState.is_written.Goals as goal

pub returns : goal.returns
unfolding is_written
returns c = refl

-- `state::PageState::is_set` meets its contract. The test is the definition.
use mathlib.Core.Path.{refl}
use Rattle.state.specs.State.{is_set}
use Rattle.state.proofs.PageState.is_set.Goals as goal

pub returns : goal.returns
unfolding is_set
returns c = refl

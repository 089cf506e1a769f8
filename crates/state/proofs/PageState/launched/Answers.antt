-- `state::PageState::launched` meets its contract. The version left keeps used + 1 from wrapping.
use mathlib.Core.Path.{refl}
use Rattle.state.specs.Change.{launched_page}
use Rattle.state.proofs.PageState.launched.Goals as goal

pub returns : goal.returns
unfolding launched_page
returns c = refl

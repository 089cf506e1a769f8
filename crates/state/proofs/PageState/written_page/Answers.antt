-- `state::PageState::written_page` meets its contract. The page with written 1.
use mathlib.Core.Path.{refl}
use Rattle.state.specs.Change.{written_page}
use Rattle.state.proofs.PageState.written_page.Goals as goal

pub returns : goal.returns
unfolding written_page
returns c = refl

use mathlib.Core.Path.{refl}
use Rattle.state.specs.Change.{at_rest}
use Rattle.state.proofs.PageState.at_rest.Goals as goal

pub returns : goal.returns
unfolding at_rest
returns c = refl

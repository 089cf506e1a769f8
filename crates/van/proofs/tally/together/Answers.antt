use mathlib.Core.Path.{refl}
use Rattle.van.specs.Tally.{together}
use Rattle.van.proofs.tally.together.Goals as goal

pub returns : goal.returns
unfolding together
returns c = refl

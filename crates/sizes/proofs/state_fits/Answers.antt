-- The test is the definition; 4 × 4,294,967,295 fits a usize.
use mathlib.Core.Path.{refl}
use Rattle.sizes.specs.Sizes.{state_fits}
use Rattle.sizes.proofs.state_fits.Goals as goal

pub returns : goal.returns
unfolding state_fits
returns c = refl

-- The test is the definition; a product of two 32-bit numbers fits a usize.
use mathlib.Core.Path.{refl}
use Rattle.sizes.specs.Sizes.{contents_fit}
use Rattle.sizes.proofs.contents_fit.Goals as goal

pub returns : goal.returns
unfolding contents_fit
returns c = refl

-- The test is the definition; 5 × 4,294,967,295 fits a usize.
use Prim.Native.Nat.{ℕ, ◌*◌}
use mathlib.Core.Path.{ap}
use lib.Dec.{eqb}
use lib.ListN.{length}
use Rattle.sizes.specs.Sizes.{words_fit_in}
use Rattle.sizes.proofs.words_fit.Goals as goal

pub returns : goal.returns
unfolding words_fit_in
returns c = ap (λ (n : ℕ). eqb (length c.args.words.now) (n * c.args.slots)) c.stride.ensures

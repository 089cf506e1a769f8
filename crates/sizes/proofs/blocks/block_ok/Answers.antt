-- The number is below the table's length.
use mathlib.Core.Path.{refl}
use Rattle.sizes.specs.Blocks.{block_ok}
use Rattle.sizes.proofs.blocks.block_ok.Goals as goal

pub returns : goal.returns
unfolding block_ok
returns c = refl

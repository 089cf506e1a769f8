use Rattle.std.proofs.Common.{arith}
use Rattle.std.proofs.lemmas.Bool.Decides.{nat_tests}
use Rattle.sizes.specs.Blocks.{in_block}
use Rattle.clean.proofs.blocks.in_block.Goals as goal

pub returns : goal.returns
unfolding in_block
returns c = grind (arith, nat_tests, c.contains.ensures.cases)

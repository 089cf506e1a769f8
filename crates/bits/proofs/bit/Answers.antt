-- A mask of the lowest bit is the remainder by 2.
use lib.Bits.{and_mask}
use Rattle.bits.specs.Bits.{bit_at}
use Rattle.bits.proofs.bit.Goals as goal

pub returns : goal.returns
unfolding bit_at
returns c = and_mask _ 1

-- The smaller of the two, whatever the block.
use native.Mathlib.Omega.{arith}
use Rattle.upkeep.specs.Pick.{looked_at}
use Rattle.pick.proofs.round.looked_at.Goals as goal

pub returns : goal.returns
unfolding looked_at
returns c = λ block. omega (arith, c.min.ensures)

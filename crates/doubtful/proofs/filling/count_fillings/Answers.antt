-- 1 shifted by at most 8 places is 2 to that power.
use native.Mathlib.Omega.{arith}
use lib.Pow.{pow_mono}
use Rattle.upkeep.specs.Doubtful.{fillings}
use Rattle.doubtful.proofs.filling.count_fillings.Goals as goal

pub returns : goal.returns
unfolding fillings
returns c = let m = pow_mono {j = 8} c.requires in omega arith

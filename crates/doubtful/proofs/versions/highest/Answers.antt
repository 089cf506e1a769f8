-- The first is the highest; else the higher of the two is.
use Rattle.std.proofs.Common.{arith}
use Rattle.std.proofs.lemmas.Bool.Decides.{nat_tests}
use Rattle.doubtful.specs.Versions.{highest_noted}
use Rattle.doubtful.proofs.versions.highest.Goals as goal

pub returns-then-first : goal.returns-then-first
unfolding highest_noted
returns-then-first c = rw c.if-first.true

pub returns-else-first : goal.returns-else-first
unfolding highest_noted
returns-else-first c = rw c.if-first.false (grind (arith, nat_tests))

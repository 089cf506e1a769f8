-- The first is the lowest; else the lower of the two is.
use Rattle.std.proofs.Common.{arith}
use Rattle.std.proofs.lemmas.Bool.Decides.{nat_tests}
use Rattle.doubtful.specs.Versions.{lowest_noted}
use Rattle.doubtful.proofs.versions.lowest.Goals as goal

pub returns-then-first : goal.returns-then-first
unfolding lowest_noted
returns-then-first c = rw c.if-first.true

pub returns-else-first : goal.returns-else-first
unfolding lowest_noted
returns-else-first c = rw c.if-first.false (grind (arith, nat_tests))

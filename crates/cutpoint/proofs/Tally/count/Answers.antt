use native.Mathlib.Nat.{add-zero}
use Rattle.everywhere.specs.Cuts.{sames, differs}
use Rattle.cutpoint.specs.Judged.{tallied}
use Rattle.cutpoint.proofs.Tally.count.Goals as goal

pub returns-then-same : goal.returns-then-same
unfolding tallied sames differs
returns-then-same c = rw (c.if-same.true, add-zero)

pub returns-else-same : goal.returns-else-same
unfolding tallied sames differs
returns-else-same c = rw (c.if-same.false, add-zero)

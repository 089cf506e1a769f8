-- The invariant: the table is known, and each page below `page` has its walk.
use Rattle.std.proofs.Common.{ℕ, ◌<◌}
use Rattle.follow.specs.Verdicts.{listed}
use Rattle.follow.specs.Walks.{Known, HasEntry}
use Rattle.follow.proofs.follow_all.Given as goal

abbrev pub invariant-loop-page : goal.invariant-loop-page
invariant-loop-page l = Known l.pages (listed l.verdicts) l.walks × ((p : ℕ) → p < l.page → HasEntry l.walks p)

-- The invariant: the page's own walk is known, and the start's and every other is given.
use Rattle.std.proofs.Common.{◌<◌}
use Rattle.follow.specs.Verdicts.{listed}
use Rattle.follow.specs.Walks.{Tells, Given}
use Rattle.follow.proofs.give_walks.Given as goal

abbrev pub invariant-loop : goal.invariant-loop
invariant-loop l = (l.page < l.pages) × Tells l.pages (listed l.verdicts) l.page l.own × Given l.pages (listed l.verdicts) l.start l.fn.walks l.walks

-- The invariant: on the way from the start.
use Rattle.follow.specs.Verdicts.{listed}
use Rattle.follow.specs.Walks.{Underway}
use Rattle.follow.proofs.find_walk.Given as goal

abbrev pub invariant-loop-before : goal.invariant-loop-before
invariant-loop-before l = Underway l.pages (listed l.verdicts) l.start l.page l.before

-- The invariant: the pages below this one are noted, and the others' words as they were.
use mathlib.Core.Path.{◌≡◌}
use lib.ListN.{length}
use Rattle.doubtful.specs.VersionsLaws.{noted_below}
use Rattle.doubtful.proofs.versions.note.Given as goal

abbrev pub invariant-loop-page : goal.invariant-loop-page
invariant-loop-page l = (length l.out ≡ length l.initial.out) × (l.out ≡ noted_below l.fn.first l.state l.initial.out l.page)

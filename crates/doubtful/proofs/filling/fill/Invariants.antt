-- The invariant: with the slots blank that are still to come, the copy is the filling.
use mathlib.Core.Path.{◌≡◌}
use lib.ListN.{length}
use Rattle.upkeep.specs.Doubtful.{absent_in}
use Rattle.doubtful.specs.Filled.{blanked_words}
use Rattle.doubtful.specs.FilledLaws.{rest_blanked}
use Rattle.doubtful.proofs.filling.fill.Given as goal

abbrev pub invariant-loop-slot : goal.invariant-loop-slot
invariant-loop-slot l = (length l.filled ≡ length l.initial.filled) × (rest_blanked l.list l.slot-index l.digits l.filled ≡ blanked_words l.words (absent_in l.list l.m))

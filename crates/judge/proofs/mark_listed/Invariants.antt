-- The invariant: the listed slots before this one are marked, and no other.
use mathlib.Core.Path.{◌≡◌}
use lib.ListN.{length}
use Rattle.judge.specs.Marked.{marked, listed_up_to}
use Rattle.judge.proofs.mark_listed.Given as goal

abbrev pub invariant-loop-slot : goal.invariant-loop-slot
invariant-loop-slot l = (length l.marks ≡ 1024) × (marked l.marks ≡ listed_up_to l.list l.slot-index)

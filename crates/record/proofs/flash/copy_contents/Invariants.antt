-- The invariant: the first i elements are copied.
use mathlib.Core.Path.{◌≡◌}
use lib.ListN.{length, take}
use Rattle.record.proofs.flash.copy_contents.Given as goal

abbrev pub invariant-loop-i : goal.invariant-loop-i
invariant-loop-i g l = (take l.i l.to ≡ take l.i l.from) × (length l.to ≡ length l.initial.to)

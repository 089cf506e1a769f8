-- The invariant: the flash is as it was with the listed slots so far blanked.
use Prim.Native.Nat.{ℕ}
use mathlib.Core.Path.{◌≡◌}
use mathlib.Core.List.{List}
use lib.ListN.{length}
use Rattle.record.specs.Flash.{flash}
use Rattle.collect.specs.EraseLaws.{Converts, blanked}
use Rattle.collect.proofs.blank_listed.Given as goal

abbrev pub invariant-loop-slot : goal.invariant-loop-slot
invariant-loop-slot g l = ((slots : List ℕ) → Converts g.T.Into.converts l.list slots → flash l.words l.contents ≡ blanked l.layout l.width (flash l.initial.words l.initial.contents) slots l.slot-index)
    × (length l.words ≡ length l.initial.words)
    × (length l.contents ≡ length l.initial.contents)

use Prim.Native.Nat.{ℕ, ◌<◌}
use mathlib.Core.Path.{◌≡◌}
use mathlib.Core.Bool.{false}
use Rattle.record.specs.Slot.{slot_in, holds}
use Rattle.table.specs.Table.{of_version}
use Rattle.table.proofs.lowest_slot.Given as goal

-- no slot below k holds the page at the version
abbrev pub invariant-loop-k : goal.invariant-loop-k
invariant-loop-k l = (j : ℕ) → j < l.k → holds (of_version l.page l.version) (slot_in l.layout l.words j) ≡ false

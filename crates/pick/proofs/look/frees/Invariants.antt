-- The invariant: no mark stands, and of the block's slots below this one so many may be erased.
use Prim.Native.Nat.{◌≤◌}
use mathlib.Core.Path.{◌≡◌}
use Rattle.judge.specs.Marked.{NoMarks}
use Rattle.judge.specs.Evidence.{volume_of}
use Rattle.pick.specs.PickingLaws.{freed_below}
use Rattle.pick.proofs.look.frees.Given as goal

abbrev pub invariant-loop-slot : goal.invariant-loop-slot
invariant-loop-slot l = (l.count ≤ l.slot)
    × NoMarks l.marks
    × (l.count ≡ freed_below l.evidence.table.sizes (volume_of l.evidence) l.evidence.table.found.now l.fn.block l.slot)

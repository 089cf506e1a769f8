-- The invariant: those of the slots below k are counted.
use mathlib.Core.Path.{◌≡◌}
use Rattle.record.specs.Slot.{slot_at}
use Rattle.state.specs.State.{state_at}
use Rattle.figures.specs.Counting.{obsolete_below}
use Rattle.figures.proofs.obsolete_records.Given as goal

abbrev pub invariant-loop-k : goal.invariant-loop-k
invariant-loop-k l = l.count ≡ obsolete_below l.table.sizes.slots (slot_at l.table.words.now) (state_at l.table.state.now) l.k

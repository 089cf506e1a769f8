use Rattle.record.specs.Slot.{slot_in}
use Rattle.table.specs.HighestSlot.{HighestBelow}
use Rattle.table.proofs.SoundTable.highest_slots.Given as goal

abbrev pub invariant-loop-k : goal.invariant-loop-k
invariant-loop-k l = HighestBelow l.self.sizes.slots l.k (slot_in l.self.layout l.self.words.now) l.top

use Rattle.table.proofs.HighestSlot.{none_below}
use Rattle.table.proofs.SoundTable.highest_slots.Goals as goal

pub loop-k-init : goal.loop-k-init
loop-k-init c = none_below _ _

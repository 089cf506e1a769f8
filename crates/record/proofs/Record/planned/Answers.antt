use mathlib.Core.Path.{refl}
use Rattle.record.specs.Slot.{planned_record}
use Rattle.record.proofs.Record.planned.Goals as goal

pub returns : goal.returns
unfolding planned_record
returns c = refl

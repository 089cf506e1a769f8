use mathlib.Core.Path.{refl}
use Rattle.record.specs.Slot.{formatted_record}
use Rattle.record.proofs.Record.formatted.Goals as goal

pub returns : goal.returns
unfolding formatted_record
returns c = refl

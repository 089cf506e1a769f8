use mathlib.Core.Path.{ap₂, ◌∙◌}
use Rattle.bounded.specs.Choice.{told}
use Rattle.twins.specs.Twins.{same_record, twins}
use Rattle.twins.proofs.are_twins.Goals as goal

pub returns-then-same_record : goal.returns-then-same_record
unfolding twins
returns-then-same_record c = rw (told (c.same_record.ensures ∙ ap₂ same_record c.slot_at.ensures c.slot_at-2.ensures) c.if-same_record.true) c.same_bytes.ensures

pub returns-else-same_record : goal.returns-else-same_record
unfolding twins
returns-else-same_record c = rw (told (c.same_record.ensures ∙ ap₂ same_record c.slot_at.ensures c.slot_at-2.ensures) c.if-same_record.false) c.if-same_record.false

-- A blank slot holds no record to bury; the page of a record in the table is in the state.
use mathlib.Core.Path.{sym, ◌∙◌}
use Rattle.permit.specs.Readable.{record_in_state}
use Rattle.permit.specs.SearchLaws.{holds_none, holds_record}
use Rattle.permit.proofs.simple.buries_slot.Goals as goal

pub returns-in_default : goal.returns-in_default
returns-in_default c = sym (holds_none _ (sym c.slot_in.ensures ∙ c.in_default.is))

pub is_buried-requires : goal.is_buried-requires
is_buried-requires c = let p = c.requires in
    record_in_state _ _ _ _ p.readable _ _ p.slot_lt_slots (sym c.slot_in.ensures ∙ c.in-Some.is)

pub returns : goal.returns
returns c = c.is_buried.ensures
    ∙ sym (holds_record _ (sym c.slot_in.ensures ∙ c.in-Some.is))

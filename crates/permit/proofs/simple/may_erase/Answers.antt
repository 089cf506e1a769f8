-- A blank slot may not be erased; the page of a record in the table is in the state.
use mathlib.Core.Path.{sym, ◌∙◌}
use Rattle.rules.specs.Simple.{simple_may_erase}
use Rattle.permit.specs.Readable.{record_in_state}
use Rattle.permit.specs.SearchLaws.{holds_none, holds_record}
use Rattle.permit.proofs.simple.may_erase.Goals as goal

pub returns-in_default : goal.returns-in_default
unfolding simple_may_erase
returns-in_default c = sym (holds_none _ (sym c.slot_in.ensures ∙ c.in_default.is))

pub may_erase_record-requires : goal.may_erase_record-requires
may_erase_record-requires c = let p = c.requires in
    record_in_state _ _ _ _ p.readable _ _ p.slot_lt_slots (sym c.slot_in.ensures ∙ c.in-Some.is)

pub returns : goal.returns
unfolding simple_may_erase
returns c = c.may_erase_record.ensures
    ∙ sym (holds_record _ (sym c.slot_in.ensures ∙ c.in-Some.is))

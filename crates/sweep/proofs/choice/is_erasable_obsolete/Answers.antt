-- Obsolete, and permitted by what was found, tested in this order; a blank slot is neither.
use mathlib.Core.Path.{sym, ◌∙◌}
use Rattle.bounded.specs.Choice.{told}
use Rattle.record.specs.Slot.{slot_at}
use Rattle.state.specs.State.{state_at}
use Rattle.sweep.specs.Chosen.{blank_not_obsolete, obsolete_record}
use Rattle.sweep.proofs.choice.is_erasable_obsolete.Goals as goal

pub returns-in_default : goal.returns-in_default
returns-in_default c = rw (blank_not_obsolete _ _ _ (sym c.slot_at.ensures ∙ c.in_default.is))

pub returns-then-is_obsolete : goal.returns-then-is_obsolete
returns-then-is_obsolete c = let a = c.args in
    rw (obsolete_record (slot_at a.table.now.words.now) (state_at a.table.now.state.now) a.slot (sym c.slot_at.ensures ∙ c.in-Some.is), told c.is_obsolete.ensures c.if-is_obsolete.true) c.may_erase.ensures

pub returns-else-is_obsolete : goal.returns-else-is_obsolete
returns-else-is_obsolete c = let a = c.args in
    rw (obsolete_record (slot_at a.table.now.words.now) (state_at a.table.now.state.now) a.slot (sym c.slot_at.ensures ∙ c.in-Some.is), told c.is_obsolete.ensures c.if-is_obsolete.false) c.if-is_obsolete.false

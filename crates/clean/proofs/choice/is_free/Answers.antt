-- Blank, and not in the block.
use mathlib.Core.Path.{◌≡◌, sym, ap, ◌∙◌}
use mathlib.Core.Bool.{true, false, not}
use Rattle.record.specs.SlotLaws.{none_blank}
use Rattle.record.specs.Slot.{slot_at, is_blank}
use Rattle.clean.proofs.choice.is_free.Goals as goal

pub returns-then-is_none : goal.returns-then-is_none
returns-then-is_none c = let a = c.args in
    let b : is_blank (slot_at a.words.now a.slot) ≡ true = sym (none_blank _ _ c.is_none.ensures ∙ ap is_blank c.slot_at.ensures) ∙ c.if-is_none.true in
    rw b (ap not c.in_block.ensures)

pub returns-else-is_none : goal.returns-else-is_none
returns-else-is_none c = let a = c.args in
    let b : is_blank (slot_at a.words.now a.slot) ≡ false = sym (none_blank _ _ c.is_none.ensures ∙ ap is_blank c.slot_at.ensures) ∙ c.if-is_none.false in
    rw b c.if-is_none.false

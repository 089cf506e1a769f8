-- A blank slot has no twin; every slot below this one is in the block of all slots.
use native.Mathlib.Omega.{arith}
use mathlib.Core.Path.{sym, ◌∙◌}
use Rattle.sizes.proofs.BlocksLaws.{inside_block}
use Rattle.record.specs.SlotLaws.{some_not_blank, not_some_blank}
use Rattle.record.specs.Flash.{flash}
use Rattle.sweep.specs.Chosen.{blank_not_higher, lower_of_all}
use Rattle.sweep.proofs.choice.is_higher_twin.Goals as goal

pub has_lower_twin-requires-clause-slot_value : goal.has_lower_twin-requires-clause-slot_value
has_lower_twin-requires-clause-slot_value c = inside_block _ _ (omega arith) c.requires.slot_lt_slots

pub returns-then-is_some : goal.returns-then-is_some
returns-then-is_some c = let a = c.args in
    c.has_lower_twin.ensures ∙ lower_of_all a.sizes.width (flash a.words.now a.contents.now) a.sizes.slots a.slot c.requires.slot_lt_slots

pub has_lower_twin-requires-clause-slot_value_2 : goal.has_lower_twin-requires-clause-slot_value_2
has_lower_twin-requires-clause-slot_value_2 c = some_not_blank _ _ _ c.is_some.ensures c.slot_at.ensures c.if-is_some.true

pub returns-else-is_some : goal.returns-else-is_some
returns-else-is_some c = let a = c.args in
    c.if-is_some.false
    ∙ sym (blank_not_higher a.sizes.width (flash a.words.now a.contents.now) a.slot (not_some_blank _ _ _ c.is_some.ensures c.slot_at.ensures c.if-is_some.false))

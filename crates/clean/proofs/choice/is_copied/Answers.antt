-- Not blank, not erasable, no lower twin, tested in this order.
use mathlib.Core.Path.{sym, ap, ◌∙◌}
use mathlib.Core.Bool.{not}
use borrow.Author.Tests.{not-true, not-false}
use Rattle.record.specs.SlotLaws.{some_not_blank, not_some_blank}
use Rattle.sizes.proofs.BlocksLaws.{inside_block}
use Rattle.clean.specs.Choosing.{blank_stays, erasable_stays, lowest_copied, judged_so}
use Rattle.clean.proofs.choice.is_copied.Goals as goal
use Rattle.clean.proofs.choice.is_copied.Goals.{then-is_some, else-is_some}

pub has_lower_twin-requires-clause-slot_value : goal.has_lower_twin-requires-clause-slot_value
has_lower_twin-requires-clause-slot_value c = let p = c.requires in inside_block _ _ p.block_first_le_slot p.slot_lt_block_end

pub returns-then-not-may_erase_from : goal.returns-then-not-may_erase_from
returns-then-not-may_erase_from c = let p = c.requires in
    let inside = inside_block _ _ p.block_first_le_slot p.slot_lt_block_end in
    elim c.if-is_some.branch [
      | then-is_some w ↦ ap not c.has_lower_twin.ensures
          ∙ sym (lowest_copied _ _ _ _ _ _ inside (some_not_blank _ _ _ c.is_some.ensures c.slot_at.ensures w.if-is_some.true)
          (sym (w.may_erase_from.ensures ∙ judged_so p.chosen _) ∙ not-true _ (sym w.value-is ∙ c.if-not-may_erase_from.true)))
      | else-is_some w ↦ absurd (cc)
    ]

pub returns-else-not-may_erase_from : goal.returns-else-not-may_erase_from
returns-else-not-may_erase_from c = let p = c.requires in
    let inside = inside_block _ _ p.block_first_le_slot p.slot_lt_block_end in
    elim c.if-is_some.branch [
      | then-is_some w ↦ c.if-not-may_erase_from.false
          ∙ sym (erasable_stays _ _ _ _ _ _ inside (some_not_blank _ _ _ c.is_some.ensures c.slot_at.ensures w.if-is_some.true)
          (sym (w.may_erase_from.ensures ∙ judged_so p.chosen _) ∙ not-false _ (sym w.value-is ∙ c.if-not-may_erase_from.false)))
      | else-is_some w ↦ c.if-not-may_erase_from.false ∙ sym (blank_stays _ _ _ _ _ _ inside (not_some_blank _ _ _ c.is_some.ensures c.slot_at.ensures w.if-is_some.false))
    ]

pub has_lower_twin-requires-clause-slot_value_2 : goal.has_lower_twin-requires-clause-slot_value_2
has_lower_twin-requires-clause-slot_value_2 c = elim c.if-is_some.branch [
  | then-is_some w ↦ some_not_blank _ _ _ c.is_some.ensures c.slot_at.ensures w.if-is_some.true
  | else-is_some w ↦ absurd (cc)
]

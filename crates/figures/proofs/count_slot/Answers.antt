-- A blank slot, or a record that is not obsolete, changes nothing; an obsolete one is needed where it may not be erased.
use native.Mathlib.Omega.{arith}
use mathlib.Core.Path.{sym, ◌∙◌}
use Rattle.bounded.specs.Choice.{told}
use Rattle.permit.specs.SearchLaws.{holds_none, holds_record}
use Rattle.figures.specs.CountingLaws.{obsolete_most, not_obsolete, one_spare, one_needed}
use Rattle.figures.proofs.count_slot.Goals as goal

pub returns-in_default : goal.returns-in_default
returns-in_default c = let p = c.requires in
    not_obsolete _ _ _ _ p.before_value (holds_none _ (sym c.slot_at.ensures ∙ c.in_default.is))

pub returns-then-not-is_obsolete : goal.returns-then-not-is_obsolete
returns-then-not-is_obsolete c = let p = c.requires in
    not_obsolete _ _ _ _ p.before_value (holds_record _ (sym c.slot_at.ensures ∙ c.in-Some.is) ∙ told c.is_obsolete.ensures c.if-not-is_obsolete.true)

pub overflow_add-all : goal.overflow_add-all
overflow_add-all c = let p = c.requires in
    let m = (obsolete_most _ _ _ _ p.before_value).0 in
    omega arith

pub returns-then-may_erase : goal.returns-then-may_erase
returns-then-may_erase c = let p = c.requires in
    one_spare _ _ _ _ p.before_value
    (sym c.slot_at.ensures ∙ c.in-Some.is)
    (told c.is_obsolete.ensures c.if-not-is_obsolete.false)
    p.all_found c.may_erase.ensures c.if-may_erase.true

pub overflow_add-result : goal.overflow_add-result
overflow_add-result c = let p = c.requires in
    let m = (obsolete_most _ _ _ _ p.before_value).1 in
    omega arith

pub returns-else-may_erase : goal.returns-else-may_erase
returns-else-may_erase c = let p = c.requires in
    one_needed _ _ _ _ p.before_value
    (sym c.slot_at.ensures ∙ c.in-Some.is)
    (told c.is_obsolete.ensures c.if-not-is_obsolete.false)
    p.all_found c.may_erase.ensures c.if-may_erase.false

-- A blank slot may not be erased; the page of a record in the table is in the state.
use mathlib.Core.Path.{sym, ◌∙◌}
use Rattle.rules.specs.Permission.{may_erase}
use Rattle.rules.specs.Found.{by_found}
use Rattle.permit.specs.SearchLaws.{holds_none, holds_record}
use Rattle.permit.proofs.Table.may_erase.Goals as goal

pub returns-in_default : goal.returns-in_default
unfolding by_found may_erase
returns-in_default c = sym (holds_none _ (sym c.slot_at.ensures ∙ c.in_default.is))

pub returns : goal.returns
unfolding by_found may_erase
returns c = c.may_erase_record.ensures
    ∙ sym (holds_record _ (sym c.slot_at.ensures ∙ c.in-Some.is))

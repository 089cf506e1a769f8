-- A blank slot holds no exposed record.
use mathlib.Core.Path.{sym, ◌∙◌}
use Rattle.permit.specs.SearchLaws.{holds_none, holds_record}
use Rattle.permit.proofs.holds_exposed.Goals as goal

pub returns-in_default : goal.returns-in_default
returns-in_default c = sym (holds_none _ (sym c.slot_at.ensures ∙ c.in_default.is))

pub returns : goal.returns
returns c = c.is_exposed.ensures ∙ sym (holds_record _ (sym c.slot_at.ensures ∙ c.in-Some.is))

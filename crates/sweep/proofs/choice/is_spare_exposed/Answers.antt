-- A blank slot holds no record.
use mathlib.Core.Path.{sym, ◌∙◌}
use Rattle.sweep.specs.Chosen.{blank_not_spare, spare_record}
use Rattle.sweep.proofs.choice.is_spare_exposed.Goals as goal

pub returns-in_default : goal.returns-in_default
returns-in_default c = sym (blank_not_spare _ _ _ (sym c.slot_at.ensures ∙ c.in_default.is))

pub returns : goal.returns
returns c = c.is_spare_exposed.ensures ∙ sym (spare_record _ _ _ (sym c.slot_at.ensures ∙ c.in-Some.is))

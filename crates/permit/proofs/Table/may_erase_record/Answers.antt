-- An obsolete record goes by whether it is needed, any other by whether it is exposed and not current.
use mathlib.Core.Path.{sym, ap, ◌∙◌}
use mathlib.Core.Bool.{not}
use Rattle.permit.specs.SearchLaws.{obsolete_by, spare_by}
use Rattle.permit.proofs.Table.may_erase_record.Goals as goal

pub returns-then-is_obsolete : goal.returns-then-is_obsolete
returns-then-is_obsolete c = ap not c.is_needed.ensures
    ∙ sym (obsolete_by _ _ _ _ _ (sym c.is_obsolete.ensures ∙ c.if-is_obsolete.true))

pub returns : goal.returns
returns c = c.is_spare_exposed.ensures ∙ sym (spare_by _ _ _ _ _ (sym c.is_obsolete.ensures ∙ c.if-is_obsolete.false))

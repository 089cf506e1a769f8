-- What recovery leaves is what the pages are read by.
use mathlib.Core.Path.{◌∙◌}
use Rattle.bounded.specs.Choice.{told}
use Rattle.cutpoint.specs.JudgedLaws.{recovery_refused, recovery_paged, recovery_done}
use Rattle.cutpoint.proofs.comes_back.Goals as goal

pub returns-else-is_ok : goal.returns-else-is_ok
returns-else-is_ok c = c.if-is_ok.false ∙ recovery_refused _ _ _ _ _ _ c.lose.ensures _ _ c.recover.ensures (told c.is_ok.ensures.value c.if-is_ok.false)

pub all_kept-requires : goal.all_kept-requires
all_kept-requires c = record { le_pages = recovery_paged _ _ _ _ _ c.recover.ensures (told c.is_ok.ensures.value c.if-is_ok.true); pages_in_bounds = c.requires }

pub returns-then-is_ok : goal.returns-then-is_ok
returns-then-is_ok c = recovery_done _ _ _ _ _ _ c.lose.ensures _ _ c.recover.ensures (told c.is_ok.ensures.value c.if-is_ok.true) c.all_kept.ensures

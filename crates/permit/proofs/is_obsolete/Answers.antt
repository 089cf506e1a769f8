-- The page read is the one that the definition names.
use Rattle.rules.specs.Permission.{is_obsolete}
use Rattle.permit.proofs.is_obsolete.Goals as goal

pub returns : goal.returns
unfolding is_obsolete
returns c = rw (← c.page_at-page.ensures)

-- The page read is the one that the definition names.
use Rattle.rules.specs.Permission.{is_exposed}
use Rattle.permit.proofs.is_exposed.Goals as goal

pub returns : goal.returns
unfolding is_exposed
returns c = rw (← c.page_at-page.ensures)

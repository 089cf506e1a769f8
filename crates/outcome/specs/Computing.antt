-- A name for "these definitions compute": a declaration that unfolds it unfolds them all.
use Rattle.outcome.specs.Outcome.{settled}

unfoldable pub computing : Unit {0}
unfolding settled
computing = tt

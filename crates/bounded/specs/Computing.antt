-- A name for "these definitions compute": a declaration that unfolds it unfolds them all.
use Rattle.bounded.specs.Below.{all_below, some_below, sum_below, max_below, first_below}
use Rattle.bounded.specs.Parts.{part, put_at, put_part, join_from, join_parts, update}

unfoldable pub computing : Unit {0}
unfolding all_below some_below sum_below max_below first_below part put_at put_part join_from join_parts update
computing = tt

-- What is found on case 6's volume with one exposed record more, (0,2,0,0,2) in slot 7: both of page 0's, and judging by them.
use Rattle.std.specs.Prelude.{refl}
use Rattle.bounded.specs.Below.{list_below}
use Rattle.outcome.specs.Row.{RowsHold}
use Rattle.rules.specs.Found.{exposed_slots, by_found}
use Rattle.rules.specs.cases.Computing.{computing}
use Rattle.rules.specs.cases.Found.{slots7, pages7, judged7, found_rows}

pub found_rows_lem : RowsHold found_rows
unfolding found_rows slots7 pages7 judged7 exposed_slots by_found list_below computing
found_rows_lem = refl

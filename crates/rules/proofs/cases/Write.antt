-- What launch and write store of a ring of two: the records that document 01's cases 2 and 3 add to the formatted ones.
use Rattle.std.specs.Prelude.{refl}
use Rattle.outcome.specs.Row.{RowsHold}
use Rattle.rules.specs.cases.Computing.{computing}
use Rattle.rules.specs.cases.Write.{launched2, first2, second2, write_rows}

pub write_rows_lem : RowsHold write_rows
unfolding write_rows launched2 first2 second2 computing
write_rows_lem = refl

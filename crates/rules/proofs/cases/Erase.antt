-- Document 01's cases 6 to 8: which slots of one volume may be erased, and of two straddlers of one link, through erase's whole outcome.
use Rattle.std.specs.Prelude.{refl}
use Rattle.outcome.specs.Row.{RowsHold}
use Rattle.rules.specs.cases.Computing.{computing}
use Rattle.rules.specs.cases.Erase.{erase_on, erased_in_turn, erase_rows, volume6, two_straddlers, outdone_rows}

pub erase_rows_lem : RowsHold (erase_rows volume6)
unfolding erase_rows erase_on erased_in_turn volume6 computing
erase_rows_lem = refl

pub outdone_rows_lem : RowsHold outdone_rows
unfolding outdone_rows erase_on two_straddlers computing
outdone_rows_lem = refl

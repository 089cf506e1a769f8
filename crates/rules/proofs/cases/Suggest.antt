-- The slot that suggest names, through its whole outcome, on volumes of document 01's cases.
use Rattle.std.specs.Prelude.{refl}
use Rattle.outcome.specs.Row.{RowsHold}
use Rattle.rules.specs.cases.Computing.{computing}
use Rattle.rules.specs.cases.Erase.{volume6}
use Rattle.rules.specs.cases.Write.{launched2, first2, second2}
use Rattle.rules.specs.cases.Suggest.{suggest_on, suggest_rows}

pub suggest_rows_lem : RowsHold suggest_rows
unfolding suggest_rows suggest_on launched2 first2 second2 volume6 computing
suggest_rows_lem = refl

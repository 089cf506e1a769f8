-- Document 01's cases 1 to 5 and 9 to 11: tables that recover, through recover's whole outcome.
use Rattle.std.specs.Prelude.{refl}
use Rattle.outcome.specs.Row.{RowsHold}
use Rattle.rules.specs.cases.Computing.{computing}
use Rattle.rules.specs.cases.Recover.{recover_on, committed_in, used_in, committed_found, both_found, table2, table4, recovery_rows}

pub recovery_rows_lem : RowsHold recovery_rows
unfolding recovery_rows recover_on committed_in used_in committed_found both_found table2 table4 computing
recovery_rows_lem = refl

-- Document 01's case 12: launch, withdraw and launch again at the highest version, through the calls' whole outcomes.
use Rattle.std.specs.Prelude.{refl}
use Rattle.outcome.specs.Row.{RowsHold}
use Rattle.rules.specs.cases.Computing.{computing}
use Rattle.rules.specs.cases.Launch.{launched_again, launch_rows}

pub launch_rows_lem : RowsHold launch_rows
unfolding launch_rows launched_again computing
launch_rows_lem = refl

-- The line under document 01's cases: the bounds of P and S, through format's whole outcome.
use Rattle.std.specs.Prelude.{refl}
use Rattle.outcome.specs.Row.{RowsHold}
use Rattle.rules.specs.cases.Computing.{computing}
use Rattle.rules.specs.cases.Bounds.{buffers, format_on, bound_rows}

pub bound_rows_lem : RowsHold bound_rows
unfolding bound_rows format_on buffers computing
bound_rows_lem = refl

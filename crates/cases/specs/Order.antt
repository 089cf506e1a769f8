-- Every call tries its conditions in the documents' order, computed: one table, with one theorem.
use Rattle.std.specs.Prelude.{List, ◌++◌}
use Rattle.outcome.specs.Row.{Row, RowsHold, rows_join}
use Rattle.cases.specs.OrderBoth.{both_rows, both_rows_lem}
use Rattle.cases.specs.OrderFirst.{first_rows, first_rows_lem}

-- the calls that both families have, of either, and those of the first alone
unfoldable pub order_rows : List Row
order_rows = both_rows ++ first_rows

pub order_rows_lem : RowsHold order_rows
unfolding order_rows
order_rows_lem = rows_join both_rows first_rows both_rows_lem first_rows_lem

-- Document 02, wish 6: the links that recover returns on the tables of document 01's cases, on others and on the one-ring table, through its outcome.
use Rattle.std.specs.Prelude.{refl}
use Rattle.outcome.specs.Row.{RowsHold}
use Rattle.follow.specs.Steps.{next_in_ring}
use Rattle.rules.specs.Links.{ring_record, one_ring}
use Rattle.rules.specs.cases.Computing.{computing}
use Rattle.rules.specs.cases.Recover.{recover_on, committed_in, table2, table4}
use Rattle.rules.specs.cases.Links.{links_on, links_and_versions, links_on_ring, link_rows}

pub link_rows_lem : RowsHold link_rows
unfolding link_rows links_on links_and_versions committed_in links_on_ring recover_on table2 table4 ring_record one_ring next_in_ring computing
link_rows_lem = refl

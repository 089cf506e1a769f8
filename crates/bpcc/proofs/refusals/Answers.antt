-- `bpcc::refusals` meets its contract: the theorem is cited. Assumes nothing.
use Rattle.cases.specs.Order.{order_rows_lem}
use Rattle.bpcc.proofs.refusals.Goals as goal

pub returns : goal.returns
returns c = record {
  order = order_rows_lem;
}

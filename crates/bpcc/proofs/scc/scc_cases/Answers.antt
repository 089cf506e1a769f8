-- `bpcc::scc::scc_cases` meets its contract: the computed rows are cited. Assumes nothing.
use Rattle.cases.specs.Simple.{simple_rows_lem}
use Rattle.bpcc.proofs.scc.scc_cases.Goals as goal

pub returns : goal.returns
returns c = record {
  cases = simple_rows_lem;
}

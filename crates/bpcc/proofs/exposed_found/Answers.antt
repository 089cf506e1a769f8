-- `bpcc::exposed_found` meets its contract: the theorems are cited. Assumes nothing.
use Rattle.rules.proofs.cases.Found.{found_rows_lem}
use Rattle.rules.proofs.laws.Found.{found_exactly, list_judged_by_found}
use Rattle.bpcc.proofs.exposed_found.Goals as goal

pub returns : goal.returns
returns c = record {
  exactly = found_exactly;
  judged = list_judged_by_found;
  found = found_rows_lem;
}

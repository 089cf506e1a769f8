-- `bpcc::star_cases` meets its contract: the theorems are cited. Assumes nothing.
use Rattle.rules.proofs.cases.Bounds.{bound_rows_lem}
use Rattle.rules.proofs.cases.Write.{write_rows_lem}
use Rattle.rules.proofs.cases.Suggest.{suggest_rows_lem}
use Rattle.rules.proofs.cases.Erase.{outdone_rows_lem}
use Rattle.rules.proofs.cases.Star.{star_cases}
use Rattle.bpcc.proofs.star_cases.Goals as goal

pub returns : goal.returns
returns c = record {
  cases = star_cases;
  bounds = bound_rows_lem;
  records = write_rows_lem;
  suggested = suggest_rows_lem;
  outdone = outdone_rows_lem;
}

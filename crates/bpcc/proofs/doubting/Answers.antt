-- `bpcc::doubting` meets its contract: the theorems are cited. Assumes nothing.
use Rattle.upkeep.proofs.laws.Fillings.{all_fillings}
use Rattle.upkeep.proofs.laws.Doubtful.{doubted, none_recovers, empty_list_recovers}
use Rattle.cases.specs.Doubtful.{doubtful_rows_lem}
use Rattle.bpcc.proofs.doubting.Goals as goal

pub returns : goal.returns
returns c = record {
  fillings = all_fillings;
  ends = doubted;
  none = none_recovers;
  empty = empty_list_recovers;
  doubted = doubtful_rows_lem;
}

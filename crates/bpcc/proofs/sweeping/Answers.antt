-- `bpcc::sweeping` meets its contract: the theorems are cited. Assumes nothing.
use Rattle.upkeep.proofs.laws.Sweep.{sweep_erases, swept_bare}
use Rattle.upkeep.proofs.cases.Sweep.{sweep_rows_lem}
use Rattle.atomicity.proofs.theorems.Sweeping.{sweeping as sweeps}
use Rattle.bpcc.proofs.sweeping.Goals as goal

pub returns : goal.returns
returns c = record {
  erases = sweep_erases;
  bare = swept_bare;
  left = sweeps;
  swept = sweep_rows_lem;
}

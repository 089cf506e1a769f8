-- `bpcc::picking` meets its contract: the theorems are cited. Assumes nothing.
use Rattle.upkeep.proofs.laws.Pick.{going_round, picked, larger_finds_no_less}
use Rattle.upkeep.proofs.cases.Pick.{pick_rows_lem}
use Rattle.bpcc.proofs.picking.Goals as goal

pub returns : goal.returns
returns c = record {
  round = going_round;
  picked = picked;
  larger = larger_finds_no_less;
  words = pick_rows_lem;
}

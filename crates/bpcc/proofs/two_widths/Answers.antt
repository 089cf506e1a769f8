-- `bpcc::two_widths` meets its contract: the theorems are cited. Assumes nothing.
use Rattle.bounded.specs.Limits.{two_widths}
use Rattle.bits.specs.Cases.{count_rows_lem}
use Rattle.rules.proofs.cases.Width.{width_rows_lem}
use Rattle.upkeep.proofs.cases.Clean.{clean_width_rows_lem}
use Rattle.atomicity.proofs.BackPointer.{back_pointer_lem}
use Rattle.atomicity.proofs.theorems.Promise.{promise_of}
use Rattle.bpcc.proofs.two_widths.Goals as goal

pub returns : goal.returns
returns c = record {
  promise = promise_of back_pointer_lem two_widths;
  widths = width_rows_lem;
  cleans = clean_width_rows_lem;
  counts = count_rows_lem;
}

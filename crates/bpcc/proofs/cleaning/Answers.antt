-- `bpcc::cleaning` meets its contract: the theorems are cited. Assumes nothing.
use Rattle.rules.proofs.cases.Twins.{twin_rows_lem}
use Rattle.upkeep.proofs.laws.Clean.{cleaned, cleaned_again, clean_accepted}
use Rattle.upkeep.proofs.laws.Filled.{clean_fills}
use Rattle.upkeep.proofs.cases.Clean.{clean_rows_lem}
use Rattle.upkeep.proofs.cases.Blocks.{block_rows_lem}
use Rattle.atomicity.proofs.BackPointer.{back_pointer_lem}
use Rattle.atomicity.proofs.theorems.CleaningUnseen.{cleaning_unseen}
use Rattle.atomicity.proofs.theorems.CleanedAfterCut.{cleaned_after_cut}
use Rattle.bpcc.proofs.cleaning.Goals as goal

pub returns : goal.returns
returns c = record {
  leaves = cleaned;
  fills = clean_fills;
  again = cleaned_again;
  room = clean_accepted;
  unseen = cleaning_unseen back_pointer_lem;
  cut = cleaned_after_cut;
  twins = twin_rows_lem;
  cleaned = clean_rows_lem;
  blocks = block_rows_lem;
}

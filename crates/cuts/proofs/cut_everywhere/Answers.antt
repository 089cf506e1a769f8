-- `cuts::cut_everywhere` meets its contract: the theorems are cited. Assumes nothing.
use Rattle.everywhere.proofs.Laws.{cut_everywhere}
use Rattle.everywhere.proofs.Cases.{cuts_computed}
use Rattle.cuts.specs.ShownLaws.{report_shown, enough_read, room_enough, all_lines_run}
use Rattle.cuts.specs.Cases.{texts_computed}
use Rattle.cuts.proofs.cut_everywhere.Goals as goal

pub returns : goal.returns
returns c = record { everywhere = cut_everywhere; printed = report_shown; lines = all_lines_run; enough = enough_read; room = room_enough; runs = cuts_computed; texts = texts_computed }

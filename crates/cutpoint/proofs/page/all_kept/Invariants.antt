-- The invariant: what is kept of the pages below `page` is read.
use mathlib.Core.Path.{◌≡◌}
use mathlib.Core.Bool.{true}
use Rattle.bounded.specs.Limits.{two_widths}
use Rattle.bounded.specs.Below.{all_below}
use Rattle.rules.specs.Volume.{volume}
use Rattle.atomicity.specs.Family.{back_pointer}
use Rattle.everywhere.specs.Cuts.{are_reads_kept}
use Rattle.ledger.specs.Ledger.{filled}
use Rattle.cutpoint.proofs.page.all_kept.Given as goal

abbrev pub invariant-loop-page : goal.invariant-loop-page
invariant-loop-page l = all_below l.page (are_reads_kept back_pointer two_widths l.sizes (volume l.words l.contents l.state) (filled l.sizes.width l.fills)) ≡ true

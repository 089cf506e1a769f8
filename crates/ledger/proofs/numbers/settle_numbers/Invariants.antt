-- The pages below `page` are settled in both tables.
use mathlib.Core.Path.{◌≡◌}
use lib.ListN.{length}
use Rattle.state.specs.State.{state_at}
use Rattle.ledger.specs.Ledger.{settled_entered, settled_kept}
use Rattle.ledger.specs.Fills.{fills_of}
use Rattle.ledger.proofs.numbers.settle_numbers.Given as goal

abbrev pub invariant-loop-page : goal.invariant-loop-page
invariant-loop-page l = (fills_of l.entered ≡ settled_entered l.page (state_at l.state) (fills_of l.initial.entered)) × (l.kept ≡ settled_kept l.page l.done (state_at l.state) (fills_of l.initial.entered) l.initial.kept)
    × (length l.entered ≡ length l.initial.entered) × (length l.kept ≡ length l.initial.kept)

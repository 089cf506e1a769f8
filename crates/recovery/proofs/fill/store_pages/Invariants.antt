use mathlib.Core.Path.{◌≡◌}
use lib.ListN.{length, get_or}
use Rattle.bounded.specs.Fill.{filled}
use Rattle.state.specs.State.{page_words}
use Rattle.state.specs.Change.{at_rest}
use Rattle.recovery.proofs.fill.store_pages.Given as goal

abbrev pub invariant-loop-page : goal.invariant-loop-page
invariant-loop-page l = (length l.state ≡ length l.initial.state) × (l.state ≡ filled 4 (λ p. page_words (at_rest (get_or l.committed p 0) (get_or l.used p 0))) l.page l.initial.state)

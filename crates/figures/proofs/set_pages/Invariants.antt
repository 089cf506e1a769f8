-- The invariant: of the pages below this one so many are set.
use mathlib.Core.Path.{◌≡◌}
use lib.ListN.{length}
use Rattle.state.specs.State.{state_at}
use Rattle.fleet.specs.Figures.{set_pages}
use Rattle.figures.proofs.set_pages.Given as goal

abbrev pub invariant-loop-page : goal.invariant-loop-page
invariant-loop-page l = l.count ≡ length (set_pages l.page (state_at l.state))

use mathlib.Core.Path.{◌≡◌}
use lib.ListN.{replicate}
use Rattle.bounded.specs.Below.{sum_below}
use Rattle.bounded.specs.Entries.{stored}
use Rattle.links.specs.Shown.{walk_shown, committed_shown}
use Rattle.links.proofs.committed.PageChains.committed_versions.Given as goal

abbrev pub invariant-loop-page : goal.invariant-loop-page
invariant-loop-page l = (l.links ≡ sum_below l.page (λ p. (walk_shown l.self.survey.table p).links))
    × (l.committed ≡ stored (committed_shown l.self.survey.table) l.page (replicate 256 0))

use mathlib.Core.Path.{◌≡◌}
use mathlib.Core.Bool.{true}
use lib.ListN.{get_or}
use Rattle.bounded.specs.Below.{all_below}
use Rattle.table.specs.Table.{has_version}
use Rattle.links.specs.Shown.{slots_shown}
use Rattle.links.proofs.committed.PageChains.versions_present.Given as goal

abbrev pub invariant-loop-page : goal.invariant-loop-page
invariant-loop-page l = all_below l.page (λ p. has_version l.self.survey.table.sizes.slots (slots_shown l.self.survey.table) p (get_or l.versions p 0)) ≡ true

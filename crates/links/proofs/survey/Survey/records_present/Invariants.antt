use mathlib.Core.Path.{◌≡◌}
use mathlib.Core.Bool.{true}
use Rattle.std.specs.Prelude.{None, is_some}
use lib.ListN.{get_or}
use Rattle.bounded.specs.Below.{all_below}
use Rattle.links.proofs.survey.Survey.records_present.Given as goal

abbrev pub invariant-loop-page : goal.invariant-loop-page
invariant-loop-page l = all_below l.page (λ p. is_some (get_or l.self.top.now p None)) ≡ true

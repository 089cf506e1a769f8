-- The invariant: each listed slot before this one may be erased.
use mathlib.Core.Path.{◌≡◌}
use mathlib.Core.Bool.{true}
use lib.ListN.{get_or}
use Rattle.bounded.specs.Below.{all_below}
use Rattle.sizes.specs.Sizes.{listed}
use Rattle.rules.specs.Permission.{may_erase_from}
use Rattle.judge.specs.Evidence.{shown}
use Rattle.judge.proofs.Evidence.all_permitted.Given as goal

abbrev pub invariant-loop-slot : goal.invariant-loop-slot
invariant-loop-slot l = all_below l.slot-index (λ j. may_erase_from (shown l.self) (listed l.list) (get_or l.list j 0)) ≡ true

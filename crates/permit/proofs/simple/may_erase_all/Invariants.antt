-- The invariant: each listed slot before this one may be erased.
use mathlib.Core.Path.{◌≡◌}
use mathlib.Core.Bool.{true}
use lib.ListN.{get_or}
use Rattle.bounded.specs.Below.{all_below}
use Rattle.sizes.specs.declared.Layout.TheVariants.{FourWords}
use Rattle.record.specs.Slot.{slot_in}
use Rattle.state.specs.State.{state_at}
use Rattle.rules.specs.Simple.{simple_may_erase}
use Rattle.permit.proofs.simple.may_erase_all.Given as goal

abbrev pub invariant-loop-slot : goal.invariant-loop-slot
invariant-loop-slot l = all_below l.slot-index (λ j. simple_may_erase (slot_in FourWords l.words) (state_at l.state) (get_or l.list j 0)) ≡ true

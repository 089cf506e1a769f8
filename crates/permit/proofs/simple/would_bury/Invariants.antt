-- The invariant: no slot below k holds a record that is buried. The version read is the page's used one.
use mathlib.Core.Path.{◌≡◌}
use mathlib.Core.Bool.{false}
use Rattle.bounded.specs.Below.{some_below}
use Rattle.sizes.specs.declared.Layout.TheVariants.{FourWords}
use Rattle.record.specs.Slot.{holds, slot_in}
use Rattle.state.specs.State.{state_at}
use Rattle.rules.specs.Simple.{buried_by}
use Rattle.permit.proofs.simple.would_bury.Given as goal

abbrev pub invariant-loop-k : goal.invariant-loop-k
invariant-loop-k l = some_below l.k (λ j. holds (buried_by (state_at l.state) l.page l.version) (slot_in FourWords l.words j)) ≡ false

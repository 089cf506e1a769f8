use mathlib.Core.Path.{◌≡◌}
use mathlib.Core.Bool.{false}
use Rattle.bounded.specs.Below.{some_below}
use Rattle.record.specs.Slot.{slot_at, holds, straddles}
use Rattle.links.proofs.link.scan_straddled.Given as goal

abbrev pub invariant-loop-k : goal.invariant-loop-k
invariant-loop-k l = some_below l.k (λ j. holds (λ K. straddles K l.link) (slot_at l.words j)) ≡ false

use mathlib.Core.Path.{◌≡◌}
use mathlib.Core.Bool.{true}
use Rattle.bounded.specs.Below.{all_below}
use Rattle.record.specs.Slot.{slot_in, slot_sound}
use Rattle.table.proofs.table_sound.Given as goal

abbrev pub invariant-loop-k : goal.invariant-loop-k
invariant-loop-k l = all_below l.k (λ j. slot_sound l.sizes.pages (slot_in l.layout l.words j)) ≡ true

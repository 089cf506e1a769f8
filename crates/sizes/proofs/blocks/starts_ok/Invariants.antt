-- The loop has found a slot in each block below i; a block that has none settles the answer.
use mathlib.Core.Path.{◌≡◌}
use mathlib.Core.Bool.{true}
use Rattle.bounded.specs.Below.{all_below}
use Rattle.sizes.proofs.BlocksLaws.{has_slot}
use Rattle.sizes.proofs.blocks.starts_ok.Given as goal

abbrev pub invariant-loop-i : goal.invariant-loop-i
invariant-loop-i l = all_below l.i (has_slot l.slots l.starts) ≡ true

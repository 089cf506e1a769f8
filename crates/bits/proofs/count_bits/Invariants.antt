-- The invariant: what is counted is the sum over the bits passed, and so at most their number.
use mathlib.Core.Path.{◌≡◌}
use Rattle.bounded.specs.Below.{sum_below}
use Rattle.bits.specs.Bits.{bit_at}
use Rattle.bits.proofs.count_bits.Given as goal

abbrev pub invariant-loop-s : goal.invariant-loop-s
invariant-loop-s l = l.set ≡ sum_below l.s (bit_at l.bytes)

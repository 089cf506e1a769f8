use Prim.Native.Nat.{ℕ, ◌+◌, ◌*◌}
use native.Mathlib.Omega.{arith}
use mathlib.Core.Path.{◌≡◌, sym, ap, ap₂, ◌∙◌}
use lib.ListN.{length}
use Rattle.bounded.specs.Below.{sum_below}
use Rattle.bounded.specs.BelowLaws.{sum_zero, sum_more}
use Rattle.bits.specs.Bits.{bit_at, set_bits}
use Rattle.bits.specs.BitsLaws.{bit_at_most_one, sum_of_ones}
use Rattle.bits.proofs.count_bits.Goals as goal

pub loop-s-init : goal.loop-s-init
loop-s-init c = sym (sum_zero (bit_at c.args.bytes.now))

pub overflow_add-set : goal.overflow_add-set
overflow_add-set c = let bytes = c.args.bytes.now in
    let s = c.loop-s.s in
    omega (arith, c.bit-set.ensures, bit_at_most_one bytes s, sum_of_ones (bit_at bytes) s (bit_at_most_one bytes))

pub loop-s-preserved : goal.loop-s-preserved
loop-s-preserved c = let bytes = c.args.bytes.now in
    let l = c.loop-s in
    ap₂ ◌+◌ l.invariant c.bit-set.ensures ∙ sym (sum_more l.s (bit_at bytes))

pub returns : goal.returns
unfolding set_bits
returns c = let bytes = c.args.bytes.now in
    let l = c.loop-s in
    let e : l.s ≡ 8 * length bytes = omega arith in
    l.invariant ∙ ap (λ (n : ℕ). sum_below n (bit_at bytes)) e

-- The test of the bytes is the definition's.
use Prim.Native.Nat.{ℕ, ◌<◌}
use native.Mathlib.Omega.{arith}
use mathlib.Core.Path.{◌≡◌, ap₂, ◌∙◌}
use mathlib.Core.Bool.{Bool, true}
use mathlib.Core.List.{List}
use Rattle.std.specs.Prelude.{◌↔◌}
use lib.ListN.{length, get_or}
use borrow.Author.Tests.{eqb-true, eq-eqb}
use Rattle.bounded.specs.Choice.{same_test}
use Rattle.bounded.specs.BelowLaws.{all_at, all_of}
use Rattle.twins.specs.Twins.{has_same_bytes}
use Rattle.twins.proofs.same_bytes.Goals as goal

tested : (w : ℕ) (xs ys : List ℕ) (b : Bool) → length xs ≡ w → (b ≡ true) ↔ ((k : ℕ) → k < length xs → get_or xs k 0 ≡ get_or ys k 0) → b ≡ has_same_bytes w xs ys
unfolding has_same_bytes
tested w xs ys b n t =
    same_test b (has_same_bytes w xs ys)
    (λ e. all_of _ _ (λ k h. eq-eqb _ _ (t.0 e k (omega arith))))
    (λ e. t.1 (λ k h. eqb-true _ _ (all_at _ _ k e (omega arith))))

pub returns : goal.returns
returns c = let w = c.args.width in
    tested w _ _ _ c.bytes_of.ensures.as_many c.are_equal.ensures ∙ ap₂ (has_same_bytes w) c.bytes_of.ensures.these c.bytes_of-2.ensures.these

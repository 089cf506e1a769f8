-- What the stores of a record writer leave, and a part of a lent slice written.
use Rattle.std.specs.Prelude.{ℕ, ◌+◌, ◌*◌, ◌-◌, ◌≡◌, refl, List, [], ◌∷◌, length, set}
use Rattle.std.proofs.Common.{arith}
use borrow.Rule.Slice.PartMut.{put_mid, Post-is}
use Rattle.bounded.specs.Parts.{put_at, put_part}

-- five words stored one by one
pub five_stored : (l : List ℕ) (a b c d e : ℕ) → length l ≡ 5 → set (set (set (set (set l 0 a) 1 b) 2 c) 3 d) 4 e ≡ a ∷ b ∷ c ∷ d ∷ e ∷ []
five_stored [] a b c d e h = absurd (omega arith)
five_stored (x1 ∷ []) a b c d e h = absurd (omega arith)
five_stored (x1 ∷ x2 ∷ []) a b c d e h = absurd (omega arith)
five_stored (x1 ∷ x2 ∷ x3 ∷ []) a b c d e h = absurd (omega arith)
five_stored (x1 ∷ x2 ∷ x3 ∷ x4 ∷ []) a b c d e h = absurd (omega arith)
five_stored (x1 ∷ x2 ∷ x3 ∷ x4 ∷ x5 ∷ []) a b c d e h = refl
five_stored (x1 ∷ x2 ∷ x3 ∷ x4 ∷ x5 ∷ x6 ∷ l) a b c d e h = absurd (omega arith)

-- and four
pub four_stored : (l : List ℕ) (a b c d : ℕ) → length l ≡ 4 → set (set (set (set l 0 a) 1 b) 2 c) 3 d ≡ a ∷ b ∷ c ∷ d ∷ []
four_stored [] a b c d h = absurd (omega arith)
four_stored (x1 ∷ []) a b c d h = absurd (omega arith)
four_stored (x1 ∷ x2 ∷ []) a b c d h = absurd (omega arith)
four_stored (x1 ∷ x2 ∷ x3 ∷ []) a b c d h = absurd (omega arith)
four_stored (x1 ∷ x2 ∷ x3 ∷ x4 ∷ []) a b c d h = refl
four_stored (x1 ∷ x2 ∷ x3 ∷ x4 ∷ x5 ∷ l) a b c d h = absurd (omega arith)

-- a part lent as `&mut xs[a..a + w]`, and given back as s
pub lent_part : (xs ys s : List ℕ) (w k : ℕ) → ys ≡ s → length s ≡ w → put_mid (w * k) (w * k + w - w * k) xs ys ≡ put_part w k s xs
unfolding put_part put_at
lent_part xs ys s w k e l = rw (Post-is (w * k) (w * k + w) xs (omega arith), e, ← l)

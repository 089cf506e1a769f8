-- A list whose parts are written one by one, from part 0 on: what a loop that fills a buffer has done so far, and what it leaves.
use Prim.Native.Nat.{ℕ, zero, suc, ◌+◌, ◌*◌, ◌≤◌, ◌<◌}
use Rattle.std.proofs.Common.{arith, sym, ◌∙◌}
use Rattle.std.proofs.Math.Numerals.{add-one}
use Rattle.std.specs.Prelude.{◌≡◌, List, length}
use Rattle.std.proofs.Math.Path.{refl, ap}
use Rattle.bounded.specs.Parts.{part, put_part, join_parts}
use Rattle.bounded.specs.PartsLaws.{length_put_part, part_put_same, part_put_other, length_join_parts, part_join_parts, parts_ext}
use Rattle.bounded.specs.BelowLaws.{below_suc}

module _ {A : Type 0} where
  -- l with its first k parts of width w written, each part i as f i
  unfoldable pub filled : (w : ℕ) (f : ℕ → List A) (k : ℕ) → List A → List A
  filled w f zero l = l
  filled w f (suc k) l = put_part w k (f k) (filled w f k l)

  module _ (w : ℕ) (f : ℕ → List A) (l : List A) where
    pub filled_none : l ≡ filled w f 0 l
    unfolding filled
    filled_none = refl

    pub filled_more : (k : ℕ) → put_part w k (f k) (filled w f k l) ≡ filled w f (k + 1) l
    unfolding filled
    filled_more k = rw add-one

    module _ (n : ℕ) (size : length l ≡ w * n) (parts : (k : ℕ) → length (f k) ≡ w) where
      pub filled_length : (k : ℕ) → k ≤ n → length (filled w f k l) ≡ w * n
      unfolding filled
      filled_length zero h = size
      filled_length (suc k) h =
          let i = filled_length k (omega arith) in length_put_part w n k (f k) (filled w f k l) (omega arith) (parts k) i ∙ i

      -- a part that is written
      pub filled_part : (k : ℕ) → k ≤ n → (j : ℕ) → j < k → part w j (filled w f k l) ≡ f j
      unfolding filled
      filled_part zero h j b = absurd (omega arith)
      filled_part (suc k) h j b =
          let i = filled_length k (omega arith) in
          below_suc j k b
          (λ c. part_put_other w n k j (f k) (filled w f k l) (omega arith) (parts k) i (λ e. omega arith) ∙ filled_part k (omega arith) j c)
          (λ e. ap (λ (x : ℕ). part w x (put_part w k (f k) (filled w f k l))) e
          ∙ part_put_same w n k (f k) (filled w f k l) (omega arith) (parts k) i
          ∙ ap f (sym e))

      -- written whole, nothing of l is left
      pub filled_all : filled w f n l ≡ join_parts n f
      filled_all =
          parts_ext w n (filled w f n l) (join_parts n f) (filled_length n (omega arith)) (length_join_parts w n f parts)
          (λ k b. filled_part n (omega arith) k b ∙ sym (part_join_parts w n k f parts b))

-- The front of a list, lent and put back.
use Rattle.std.specs.Prelude.{ℕ, ◌-◌, ◌≤◌, min, ◌≡◌, List, ◌++◌, length, take, drop, replicate}
use Rattle.std.proofs.Common.{arith}
use Rattle.std.proofs.lemmas.List.{take_min, drop_min, take-replicate}
use borrow.Rule.Slice.PartMut.{put_mid, Post-is}

-- the front lent, and put back as ys
module _ (n k : ℕ) (l : List ℕ) (e : k ≡ min n (length l)) where
  pub front_lent : take (k - 0) (drop 0 l) ≡ take n l
  front_lent = let z : k - 0 ≡ min n (length l) = omega arith in rw (z, take_min n l)

  pub front_back : (ys : List ℕ) → put_mid 0 (k - 0) l ys ≡ ys ++ drop n l
  front_back ys = rw (Post-is 0 k l (omega arith), e, drop_min n l)

-- the first k of n equal elements, lent
pub equal_lent : (k n x : ℕ) → k ≤ n → take (k - 0) (drop 0 (replicate n x)) ≡ replicate k x
equal_lent k n x h = let z : k - 0 ≡ k = omega arith in rw z (take-replicate k n x h)

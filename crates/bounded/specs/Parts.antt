-- A list as parts of one width w: part k is the elements wk to wk + w − 1. The slot table (w = 5, or 4), the contents and the state (w = 4) are such lists.
use Rattle.std.specs.Prelude.{ℕ, zero, suc, ◌+◌, ◌*◌, List, [], ◌++◌, cond, eqb, length, take, drop}

module _ {A : Type 0} where
  -- elements wk to wk + w − 1 of l
  unfoldable pub part : ℕ → ℕ → List A → List A
  part w k l = take w (drop (w * k) l)

  -- l with s written over it from element a on
  unfoldable pub put_at : List A → ℕ → List A → List A
  put_at l a s = take a l ++ (s ++ drop (a + length s) l)

  -- l with s written over its part k
  unfoldable pub put_part : ℕ → ℕ → List A → List A → List A
  unfolding put_at
  put_part w k s l = put_at l (w * k) s

  -- the n lists f i, f (i + 1), …, one behind the other
  unfoldable pub join_from : ℕ → ℕ → (ℕ → List A) → List A
  join_from zero i f = []
  join_from (suc n) i f = f i ++ join_from n (suc i) f

  -- the lists f 0 to f (n − 1), one behind the other
  unfoldable pub join_parts : ℕ → (ℕ → List A) → List A
  unfolding join_from
  join_parts n f = join_from n 0 f

-- f with x at k
unfoldable pub update : {A : Type 0} → (ℕ → A) → ℕ → A → ℕ → A
update f k x i = cond (eqb i k) x (f i)

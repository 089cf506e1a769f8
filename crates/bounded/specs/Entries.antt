-- A list whose entries are stored one by one, from entry 0 on: what a loop that stores them has done so far, and what it leaves.
use Prim.Native.Nat.{ℕ, zero, suc, ◌+◌, ◌≤◌, ◌<◌}
use Rattle.std.proofs.Common.{arith, sym, ◌∙◌, ext_get_or}
use Rattle.std.proofs.Math.Numerals.{add-one}
use Rattle.std.specs.Prelude.{◌≡◌, List, length, set}
use Rattle.std.proofs.Math.Path.{refl, ap}
use Rattle.std.proofs.Math.ListN.{get_or, length-set}
use Rattle.std.proofs.Math.Seq.{get_or-set_same, get_or-set_other}
use Rattle.bounded.specs.BelowLaws.{below_suc}

-- l with its first n entries stored, entry i as f i
unfoldable pub stored : (ℕ → ℕ) → ℕ → List ℕ → List ℕ
stored f zero l = l
stored f (suc n) l = set (stored f n l) n (f n)

module _ (f : ℕ → ℕ) (l : List ℕ) where
  pub stored_none : l ≡ stored f 0 l
  unfolding stored
  stored_none = refl

  pub stored_more : (n : ℕ) → set (stored f n l) n (f n) ≡ stored f (n + 1) l
  unfolding stored
  stored_more n = rw add-one

  pub stored_length : (n : ℕ) → length (stored f n l) ≡ length l
  unfolding stored
  stored_length zero = refl
  stored_length (suc n) = length-set (stored f n l) n (f n) ∙ stored_length n

  -- an entry that is stored, and one that is not
  pub stored_at : (n : ℕ) → n ≤ length l → (i : ℕ) → i < n → get_or (stored f n l) i 0 ≡ f i
  unfolding stored
  stored_at zero h i b = absurd (omega arith)
  stored_at (suc n) h i b =
      below_suc i n b
      (λ c. get_or-set_other (stored f n l) n i (f n) 0 (λ e. omega arith) ∙ stored_at n (omega arith) i c)
      (λ e. ap (λ (j : ℕ). get_or (set (stored f n l) n (f n)) j 0) e
      ∙ get_or-set_same (stored f n l) n (f n) 0 (let q = stored_length n in omega arith)
      ∙ ap f (sym e))

  pub stored_after : (n i : ℕ) → n ≤ i → get_or (stored f n l) i 0 ≡ get_or l i 0
  unfolding stored
  stored_after zero i h = refl
  stored_after (suc n) i h = get_or-set_other (stored f n l) n i (f n) 0 (λ e. omega arith) ∙ stored_after n i (omega arith)

  -- stored whole, it is any list with these entries
  pub stored_all : (m : List ℕ) (n : ℕ) → length l ≡ length m → n ≡ length m → ((i : ℕ) → i < n → f i ≡ get_or m i 0) → stored f n l ≡ m
  stored_all m n e q h =
      ext_get_or 0 (stored f n l) m (stored_length n ∙ e) (λ i b. let s = stored_length n in stored_at n (omega arith) i (omega arith) ∙ h i (omega arith))

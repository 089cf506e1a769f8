-- What the test of a list of pages or slots says, as facts; and that a sound list is no longer than its bound.
use Rattle.std.specs.Prelude.{ℕ, ◌≤◌, ◌<◌, ◌≡◌, refl, ◌↔◌, List, [], ◌∷◌, Bool, true, false, not, ◌&&◌, ltb, leb, length, get_or}
use Rattle.std.proofs.Common.{arith, sym, ap, ◌∙◌}
use Rattle.std.proofs.Math.Dec.{eqb}
use borrow.Author.Tests.{leb-true, le-leb, lt-leb, ltb-true, lt-ltb, eq-eqb, ne_eqb, not-true}
use Rattle.bounded.specs.Choice.{on_lt, on_test, never, both, both_left, both_right, not_no}
use Rattle.bounded.specs.Below.{all_below, list_below}
use Rattle.bounded.specs.BelowLaws.{all_at, all_of, some_none}
use Rattle.bounded.specs.Passing.{list_entry}
use Rattle.bounded.specs.Members.{list_rises, rises_apart}
use Rattle.sizes.specs.Sizes.{no_repeats, in_range, list_ok, listed}

-- entry i is below n
unfoldable pub ranged_at : ℕ → List ℕ → ℕ → Bool
ranged_at n list i = ltb (get_or list i 0) n

-- entry j is not entry i
unfoldable pub unlike : List ℕ → (i j : ℕ) → Bool
unlike list i j = not (eqb (get_or list j 0) (get_or list i 0))

-- entry i is none of the entries before it
unfoldable pub new_at : List ℕ → ℕ → Bool
new_at list i = all_below i (unlike list i)

-- not empty, every entry below n, no two places with the same entry
pub record Listed (n : ℕ) (list : List ℕ) : Type 0 where
  pub not_empty : 1 ≤ length list
  pub in_range_lem : (i : ℕ) → i < length list → get_or list i 0 < n
  pub apart : (i j : ℕ) → i < length list → j < length list → get_or list i 0 ≡ get_or list j 0 → i ≡ j

module _ (n : ℕ) (list : List ℕ) where
  -- ---- the test entry by entry

  -- a list whose entries all pass both tests
  pub list_passes : 1 ≤ length list → all_below (length list) (ranged_at n list) ≡ true → all_below (length list) (new_at list) ≡ true → list_ok n list ≡ true
  unfolding list_ok in_range no_repeats ranged_at new_at unlike
  list_passes h e f = both (le-leb 1 (length list) h) (both e f)

  pub list_empty : length list < 1 → list_ok n list ≡ false
  unfolding list_ok
  list_empty h = rw (lt-leb 1 (length list) h)

  -- the test is false where its truth is absurd
  fails : (list_ok n list ≡ true → ⊥) → list_ok n list ≡ false
  fails h = on_test (list_ok n list) (λ e. absurd (h e)) (λ e. e)

  ranged_of : list_ok n list ≡ true → all_below (length list) (ranged_at n list) ≡ true
  unfolding list_ok in_range ranged_at
  ranged_of e = both_left (in_range n list) (no_repeats list) (both_right (leb 1 (length list)) (in_range n list && no_repeats list) e)

  new_of : list_ok n list ≡ true → all_below (length list) (new_at list) ≡ true
  unfolding list_ok no_repeats new_at unlike
  new_of e = both_right (in_range n list) (no_repeats list) (both_right (leb 1 (length list)) (in_range n list && no_repeats list) e)

  pub list_out_of_range : (k : ℕ) → k < length list → n ≤ get_or list k 0 → list_ok n list ≡ false
  unfolding ranged_at
  list_out_of_range k h l =
      fails (λ e. let b = ltb-true (get_or list k 0) n (all_at (ranged_at n list) (length list) k (ranged_of e) h) in omega arith)

  pub list_repeats : (k : ℕ) → k < length list → new_at list k ≡ false → list_ok n list ≡ false
  list_repeats k h f = fails (λ e. never (all_at (new_at list) (length list) k (new_of e) h) f)

  -- ---- as facts

  -- two places with the same entry, the one before the other
  new_apart : (i j : ℕ) → new_at list j ≡ true → i < j → get_or list i 0 ≡ get_or list j 0 → ⊥
  unfolding new_at unlike
  new_apart i j e l q =
      never (eq-eqb _ _ q) (not-true (eqb (get_or list i 0) (get_or list j 0)) (all_at (unlike list j) j i e l))

  -- no two places with the same entry
  pub no_repeats_apart : no_repeats list ≡ true → (i j : ℕ) → i < length list → j < length list → get_or list i 0 ≡ get_or list j 0 → i ≡ j
  unfolding no_repeats new_at unlike
  no_repeats_apart e i j hi hj q =
      on_lt i j
      (λ l. absurd (new_apart i j (all_at (new_at list) (length list) j e hj) l q))
      (λ l. on_lt j i (λ m. absurd (new_apart j i (all_at (new_at list) (length list) i e hi) m (sym q))) (λ m. omega arith))

  pub list_facts : list_ok n list ≡ true → Listed n list
  unfolding list_ok ranged_at
  list_facts e = record {
    not_empty = leb-true 1 (length list) (both_left (leb 1 (length list)) (in_range n list && no_repeats list) e);
    in_range_lem = λ i h. ltb-true _ _ (all_at (ranged_at n list) (length list) i (ranged_of e) h);
    apart = no_repeats_apart (both_right (in_range n list) (no_repeats list) (both_right (leb 1 (length list)) (in_range n list && no_repeats list) e));
  }

  pub list_test : Listed n list → list_ok n list ≡ true
  unfolding ranged_at new_at unlike
  list_test f =
      list_passes f.not_empty
      (all_of (ranged_at n list) (length list) (λ i h. lt-ltb _ _ (f.in_range_lem i h)))
      (all_of (new_at list) (length list)
      (λ i h. all_of (unlike list i) i
      (λ j l. not_no (ne_eqb _ _ (λ q. let s = f.apart j i (omega arith) h q in omega arith)))))

  -- the test is exactly no "empty list, repeated entry, or a page or slot out of range"
  pub list_exactly : (list_ok n list ≡ true) ↔ Listed n list
  list_exactly = (list_facts, list_test)

-- ---- the numbers below n that pass

module _ (n : ℕ) (f : ℕ → Bool) where
  -- they are a list, unless there is none
  pub passing_listed : ¬ (list_below n f ≡ []) → Listed n (list_below n f)
  passing_listed some = record {
    not_empty = longer (list_below n f) some;
    in_range_lem = λ i h. (list_entry f n i h).0;
    apart = λ i j h k e. rises_apart 0 n (list_below n f) (list_rises f n) i j h k e;
  }
    where
      longer : (l : List ℕ) → ¬ (l ≡ []) → 1 ≤ length l
      longer [] some = absurd (some refl)
      longer (x ∷ l) some = omega arith

  -- a number stands in it exactly where it passes
  pub unlisted_fails : (k : ℕ) → f k ≡ false → listed (list_below n f) k ≡ false
  unfolding listed
  unlisted_fails k e =
      some_none (λ i. eqb (get_or (list_below n f) i 0) k) (length (list_below n f))
      (λ i h. ne_eqb (get_or (list_below n f) i 0) k (λ q. never (sym (ap f q) ∙ (list_entry f n i h).1) e))

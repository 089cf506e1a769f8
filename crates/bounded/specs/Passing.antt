-- end_below is 1 more than the last number that passes, and a search for a narrower test, or for the highest, may go from end to end; list_below holds exactly the
-- numbers that pass, and a search over it is the search over them.
use Prim.Native.Nat.{ℕ, zero, suc, ◌+◌, ◌≤◌, ◌<◌, max}
use native.Mathlib.Omega.{arith}
use Rattle.std.proofs.Common.{add-one, sym, ◌∙◌, subst}
use Rattle.std.specs.Prelude.{◌≡◌, ◌↔◌, List, [], ◌∷◌, ◌++◌, Bool, ◌&&◌, length, get_or}
use Rattle.std.proofs.Math.Path.{refl, ap}
use Rattle.std.proofs.Math.Bool.{true, false}
use Rattle.std.proofs.Math.ListN.{length-append, get_or-append}
use Rattle.std.proofs.Math.Seq.{get_or-append_seam}
use Rattle.bounded.specs.Choice.{on_lt, on_test, never, both, both_left, both_right, or_false, same_test}
use Rattle.bounded.specs.Below.{some_below, max_below, end_below, list_below}
use Rattle.bounded.specs.BelowLaws.{below_suc, some_of, some_at}

module _ (f : ℕ → Bool) where
  -- ---- the end

  pub end_le : (n : ℕ) → end_below n f ≤ n
  unfolding end_below
  end_le zero = omega arith
  end_le (suc n) = let i = end_le n in on_test (f n) (λ e. rw e (omega arith)) (λ e. rw e (omega arith))

  -- a counting loop: one number more, that passes or does not
  pub end_here : (n : ℕ) → f n ≡ true → end_below (n + 1) f ≡ n + 1
  unfolding end_below
  end_here n e = rw (add-one, end_below, e)

  pub end_stays : (n : ℕ) → f n ≡ false → end_below (n + 1) f ≡ end_below n f
  unfolding end_below
  end_stays n e = rw (add-one, end_below, e)

  -- the number in front of an end passes
  pub end_passes : (n k : ℕ) → end_below n f ≡ k + 1 → f k ≡ true
  unfolding end_below
  end_passes zero k q = absurd (omega arith)
  end_passes (suc n) k q =
      on_test (f n)
      (λ e. let s : k ≡ n = omega (arith, here e) in ap f s ∙ e)
      (λ e. end_passes n k (sym (stays e) ∙ q))
    where
      here : f n ≡ true → end_below (suc n) f ≡ suc n
      here e = rw (end_below, e)

      stays : f n ≡ false → end_below (suc n) f ≡ end_below n f
      stays e = rw (end_below, e)

  -- ---- a search for a test that only numbers pass that pass f

  module _ (q : ℕ → Bool) (narrower : (k : ℕ) → q k ≡ true → f k ≡ true) where
    -- it may begin at the end
    pub some_from_end : (n : ℕ) → some_below n q ≡ some_below (end_below n f) q
    unfolding some_below end_below
    some_from_end zero = refl
    some_from_end (suc n) =
        on_test (f n)
        (λ e. rw e)
        (λ e. rw (e, fails e, some_from_end n) (or_false (some_below (end_below n f) q)))
      where
        fails : f n ≡ false → q n ≡ false
        fails e = on_test (q n) (λ t. absurd (never (narrower n t) e)) (λ t. t)

    -- and go on, from a number that does not pass, at the end of those before it
    pub some_go_on : (k : ℕ) → q k ≡ false → some_below (k + 1) q ≡ some_below (end_below k f) q
    unfolding some_below
    some_go_on k e = rw (add-one, some_below, e) (or_false (some_below k q) ∙ some_from_end k)

  -- ---- the highest of g, which is 0 where a number does not pass f

  module _ (g : ℕ → ℕ) (nothing : (k : ℕ) → f k ≡ false → g k ≡ 0) where
    -- it is the highest up to the end,
    pub max_from_end : (n : ℕ) → max_below n g ≡ max_below (end_below n f) g
    unfolding max_below end_below
    max_from_end zero = refl
    max_from_end (suc n) =
        on_test (f n)
        (λ e. rw e)
        (λ e. rw e (let i = max_from_end n in let z = nothing n e in omega arith))

    -- and of one number more, it or the highest up to the end of those before it
    pub max_go_on : (k : ℕ) → max_below (k + 1) g ≡ max (g k) (max_below (end_below k f) g)
    unfolding max_below
    max_go_on k = rw (add-one, max_below) (let i = max_from_end k in omega arith)

  -- ---- the list

  -- a counting loop: one number more, that passes or does not
  pub list_more : (n : ℕ) → f n ≡ true → list_below (n + 1) f ≡ list_below n f ++ (n ∷ [])
  unfolding list_below
  list_more n e = rw (add-one, list_below, e)

  pub list_stays : (n : ℕ) → f n ≡ false → list_below (n + 1) f ≡ list_below n f
  unfolding list_below
  list_stays n e = rw (add-one, list_below, e)

  -- each entry is a number below n that passes
  abbrev Passes : ℕ → ℕ → Type 0
  Passes n k = (k < n) × (f k ≡ true)

  pub list_entry : (n i : ℕ) → i < length (list_below n f) → Passes n (get_or (list_below n f) i 0)
  unfolding list_below
  list_entry zero i h = absurd (omega arith)
  list_entry (suc n) i h = on_test (f n) (λ e. rw e (one_more_lem (list_entry n i) e (rw e at h))) (λ e. rw e (later (list_entry n i (rw e at h))))
    where
      later : {k : ℕ} → Passes n k → Passes (suc n) k
      later p = (let l = p.0 in omega arith, p.1)

      one_more_lem : (i < length (list_below n f) → Passes n (get_or (list_below n f) i 0)) → f n ≡ true → i < length (list_below n f ++ (n ∷ [])) → Passes (suc n) (get_or (list_below n f ++ (n ∷ [])) i 0)
      one_more_lem entry e b =
          on_lt i (length (list_below n f))
          (λ l. subst (Passes (suc n)) (sym (get_or-append (list_below n f) (n ∷ []) 0 i l)) (later (entry l)))
          (λ l. let q : i ≡ length (list_below n f) = (let s = length-append (list_below n f) (n ∷ []) in omega arith) in
          subst (Passes (suc n)) (sym (ap (λ (j : ℕ). get_or (list_below n f ++ (n ∷ [])) j 0) q ∙ get_or-append_seam (list_below n f) n [] 0)) (omega arith, e))

  -- and each of those is an entry
  abbrev Entry : List ℕ → ℕ → Type 0
  Entry l k = (i : ℕ) × (i < length l) × (get_or l i 0 ≡ k)

  pub list_place : (n k : ℕ) → k < n → f k ≡ true → Entry (list_below n f) k
  unfolding list_below
  list_place zero k h e = absurd (omega arith)
  list_place (suc n) k h e = below_suc k n h (λ l. before (list_place n k l e)) (λ q. rw (here q) (last q))
    where
      front : Entry (list_below n f) k → Entry (list_below n f ++ (n ∷ [])) k
      front w = (
        w.0,
        (let b = w.1 in let s = length-append (list_below n f) (n ∷ []) in omega arith),
        get_or-append (list_below n f) (n ∷ []) 0 w.0 w.1 ∙ w.2,
      )

      before : Entry (list_below n f) k → Entry (list_below (suc n) f) k
      before w = on_test (f n) (λ t. rw (list_below, t) (front w)) (λ t. rw (list_below, t) w)

      here : k ≡ n → f n ≡ true
      here q = ap f (sym q) ∙ e

      last : k ≡ n → Entry (list_below n f ++ (n ∷ [])) k
      last q = (
        length (list_below n f),
        (let s = length-append (list_below n f) (n ∷ []) in omega arith),
        get_or-append_seam (list_below n f) n [] 0 ∙ sym q,
      )

  -- "every … and no other"
  pub list_exactly : (n k : ℕ) → Entry (list_below n f) k ↔ Passes n k
  list_exactly n k =
      (λ w. subst (Passes n) w.2 (list_entry n w.0 w.1), λ p. list_place n k p.0 p.1)

  -- some entry passes q exactly where some number below n passes both
  pub some_listed : (n : ℕ) (q : ℕ → Bool) → some_below (length (list_below n f)) (λ i. q (get_or (list_below n f) i 0)) ≡ some_below n (λ k. f k && q k)
  some_listed n q =
      same_test (some_below (length (list_below n f)) (λ i. q (get_or (list_below n f) i 0))) (some_below n (λ k. f k && q k))
      (λ e. let w = some_at (λ i. q (get_or (list_below n f) i 0)) (length (list_below n f)) e in
      let p = list_entry n w.0 w.1 in
      some_of (λ k. f k && q k) n (get_or (list_below n f) w.0 0) p.0 (both p.1 w.2))
      (λ e. let w = some_at (λ k. f k && q k) n e in
      let i = list_place n w.0 w.1 (both_left (f w.0) (q w.0) w.2) in
      some_of (λ i. q (get_or (list_below n f) i 0)) (length (list_below n f)) i.0 i.1 (ap q i.2 ∙ both_right (f w.0) (q w.0) w.2))

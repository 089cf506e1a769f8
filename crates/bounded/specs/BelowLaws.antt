-- all_below is exactly "each", some_below exactly "there is", max_below the highest, first_below the first; what bounds a sum; and the laws of counting loops.
use Prim.Native.Nat.{ℕ, zero, suc, ◌+◌, ◌*◌, ◌≤◌, ◌<◌}
use Rattle.std.proofs.Common.{mul-suc, mul-zero, ap₂, ◌∙◌, subst, inl, inr}
use native.Mathlib.Omega.{arith}
use Rattle.std.proofs.Math.Numerals.{add-one}
use Rattle.std.specs.Prelude.{◌≡◌, ◌⊎◌, ◌↔◌, Bool, true, ◌&&◌, ◌||◌, ltb}
use Rattle.std.proofs.Math.Path.{refl, sym, ap}
use Rattle.std.proofs.Math.Bool.{false}
use Rattle.std.proofs.Math.Dec.{eqb}
use borrow.Author.Tests.{lt-ltb, le-ltb, eqb-true, eqb-false, eq-eqb, ne_eqb}
use Rattle.bounded.specs.Choice.{on_lt, on_test, never, both, both_left, both_right, either_left, either_right}
use Rattle.bounded.specs.Below.{all_below, some_below, sum_below, max_below, min_below, first_below}

-- Each number below n + 1 is n or below n.
pub below_suc {ℓ} : {C : Type ℓ} (k n : ℕ) → k < suc n → (k < n → C) → (k ≡ n → C) → C
below_suc k n h f g = on_lt k n f (λ le. g (omega arith))

module _ (f : ℕ → Bool) where
  -- ---- all

  pub all_at : (n k : ℕ) → all_below n f ≡ true → k < n → f k ≡ true
  unfolding all_below
  all_at zero k e h = absurd (omega arith)
  all_at (suc n) k e h =
      below_suc k n h (λ l. all_at n k (both_left (all_below n f) (f n) e) l)
      (λ q. ap f q ∙ both_right (all_below n f) (f n) e)

  pub all_of : (n : ℕ) → ((k : ℕ) → k < n → f k ≡ true) → all_below n f ≡ true
  unfolding all_below
  all_of zero h = refl
  all_of (suc n) h = both (all_of n (λ k l. h k (omega arith))) (h n (omega arith))

  -- "each"
  pub all_each : (n : ℕ) → (all_below n f ≡ true) ↔ ((k : ℕ) → k < n → f k ≡ true)
  all_each n = (λ e k h. all_at n k e h, all_of n)

  -- a counting loop: at 0, one more, and a number that fails
  pub all_zero : all_below 0 f ≡ true
  unfolding all_below
  all_zero = refl

  pub all_more : (n : ℕ) → all_below n f ≡ true → f n ≡ true → all_below (n + 1) f ≡ true
  unfolding all_below
  all_more n e h = rw add-one (both e h)

  pub all_fails : (n k : ℕ) → k < n → f k ≡ false → all_below n f ≡ false
  all_fails n k h e = on_test (all_below n f) (λ a. absurd (never (all_at n k a h) e)) (λ a. a)

  -- ---- some

  pub some_of : (n k : ℕ) → k < n → f k ≡ true → some_below n f ≡ true
  unfolding some_below
  some_of zero k h e = absurd (omega arith)
  some_of (suc n) k h e =
      below_suc k n h (λ l. either_left (f n) (some_of n k l e)) (λ q. either_right (some_below n f) (ap f (sym q) ∙ e))

  -- one that passes, or none does
  pub some_search : (n : ℕ) → ((k : ℕ) × (k < n) × (f k ≡ true)) ⊎ ((k : ℕ) → k < n → f k ≡ false)
  some_search zero = inr (λ k h. absurd (omega arith))
  some_search (suc n) = go (some_search n)
    where
      go : ((k : ℕ) × (k < n) × (f k ≡ true)) ⊎ ((k : ℕ) → k < n → f k ≡ false) → ((k : ℕ) × (k < suc n) × (f k ≡ true)) ⊎ ((k : ℕ) → k < suc n → f k ≡ false)
      go (inl w) = inl (w.0, omega arith, w.2)
      go (inr none) = on_test (f n) (λ e. inl (n, omega arith, e)) (λ e. inr (λ k h. below_suc k n h (none k) (λ q. ap f q ∙ e)))

  pub some_none : (n : ℕ) → ((k : ℕ) → k < n → f k ≡ false) → some_below n f ≡ false
  unfolding some_below
  some_none zero h = refl
  some_none (suc n) h = rw (some_none n (λ k l. h k (omega arith)), h n (omega arith))

  pub some_at : (n : ℕ) → some_below n f ≡ true → (k : ℕ) × (k < n) × (f k ≡ true)
  some_at n e = go (some_search n)
    where
      go : ((k : ℕ) × (k < n) × (f k ≡ true)) ⊎ ((k : ℕ) → k < n → f k ≡ false) → (k : ℕ) × (k < n) × (f k ≡ true)
      go (inl w) = w
      go (inr none) = absurd (never e (some_none n none))

  pub some_not_at : (n k : ℕ) → some_below n f ≡ false → k < n → f k ≡ false
  some_not_at n k e h = on_test (f k) (λ t. absurd (never (some_of n k h t) e)) (λ t. t)

  -- a counting loop: at 0, one more that does not pass
  pub some_zero : some_below 0 f ≡ false
  unfolding some_below
  some_zero = refl

  pub some_more : (n : ℕ) → some_below n f ≡ false → f n ≡ false → some_below (n + 1) f ≡ false
  unfolding some_below
  some_more n e h = rw (add-one, some_below, e, h)

  -- ---- first

  pub first_le : (n : ℕ) → first_below n f ≤ n
  unfolding first_below
  first_le zero = omega arith
  first_le (suc n) =
      on_lt (first_below n f) n
      (λ l. rw (lt-ltb (first_below n f) n l) (omega arith))
      (λ l. rw (le-ltb (first_below n f) n l) (on_test (f n) (λ e. rw e (omega arith)) (λ e. rw e (omega arith))))

  -- where one passes below n it does, and none below it does
  pub first_passes : (n : ℕ) → first_below n f < n → f (first_below n f) ≡ true
  unfolding first_below
  first_passes zero h = absurd (omega arith)
  first_passes (suc n) h =
      on_lt (first_below n f) n
      (λ l. rw (lt-ltb (first_below n f) n l) (first_passes n l))
      (λ l. rw (le-ltb (first_below n f) n l) (on_test (f n) (λ e. rw e e) (λ e. absurd (late l e))))
    where
      late : n ≤ first_below n f → f n ≡ false → ⊥
      late l e =
          let q : first_below (suc n) f ≡ suc n = rw (first_below, le-ltb (first_below n f) n l, e) in
          omega arith

  pub first_none_before : (n k : ℕ) → k < first_below n f → f k ≡ false
  unfolding first_below
  first_none_before zero k h = absurd (omega arith)
  first_none_before (suc n) k h =
      on_lt (first_below n f) n
      (λ l. first_none_before n k (subst (λ (x : ℕ). k < x) (early l) h))
      (λ l. on_test (f n)
      (λ e. first_none_before n k (omega (arith, here l e)))
      (λ e. below_suc k n (omega (arith, late l e)) (λ b. first_none_before n k (omega arith)) (λ q. ap f q ∙ e)))
    where
      early : first_below n f < n → first_below (suc n) f ≡ first_below n f
      early l = rw (first_below, lt-ltb (first_below n f) n l)

      here : n ≤ first_below n f → f n ≡ true → first_below (suc n) f ≡ n
      here l e = rw (first_below, le-ltb (first_below n f) n l, e)

      late : n ≤ first_below n f → f n ≡ false → first_below (suc n) f ≡ suc n
      late l e = rw (first_below, le-ltb (first_below n f) n l, e)

  -- it is the one number that passes with none below it that does
  pub first_is : (n k : ℕ) → k < n → f k ≡ true → ((j : ℕ) → j < k → f j ≡ false) → first_below n f ≡ k
  first_is n k h e none =
      on_lt (first_below n f) k
      (λ l. absurd (never (first_passes n (omega arith)) (none (first_below n f) l)))
      (λ l. on_lt k (first_below n f) (λ m. absurd (never e (first_none_before n k m))) (λ m. omega arith))

  pub first_none : (n : ℕ) → ((k : ℕ) → k < n → f k ≡ false) → first_below n f ≡ n
  first_none n none =
      on_lt (first_below n f) n (λ l. absurd (never (first_passes n l) (none (first_below n f) l))) (λ l. let g = first_le n in omega arith)

  pub first_found : (n : ℕ) → some_below n f ≡ true → first_below n f < n
  first_found n e =
      let w = some_at n e in
      on_lt (first_below n f) n (λ l. l) (λ l. absurd (never w.2 (first_none_before n w.0 (omega arith))))

  -- some number passes exactly where the first that does is below n
  pub first_tells : (n : ℕ) → some_below n f ≡ ltb (first_below n f) n
  first_tells n =
      on_test (some_below n f)
      (λ e. e ∙ sym (lt-ltb (first_below n f) n (first_found n e)))
      (λ e. e ∙ sym (le-ltb (first_below n f) n (on_lt (first_below n f) n (λ l. absurd (never (some_of n (first_below n f) l (first_passes n l)) e)) (λ l. l))))

-- ---- the highest

module _ (f : ℕ → ℕ) where
  pub max_above : (n k : ℕ) → k < n → f k ≤ max_below n f
  unfolding max_below
  max_above zero k h = absurd (omega arith)
  max_above (suc n) k h =
      below_suc k n h (λ l. let i = max_above n k l in omega arith) (λ q. let i = ap f q in omega arith)

  pub max_bound : (n b : ℕ) → ((k : ℕ) → k < n → f k ≤ b) → max_below n f ≤ b
  unfolding max_below
  max_bound zero b h = omega arith
  max_bound (suc n) b h =
      let i = max_bound n b (λ k l. h k (omega arith)) in
      let j = h n (omega arith) in
      omega arith

  -- it is reached
  pub max_at : (n : ℕ) → (k : ℕ) × (k < suc n) × (f k ≡ max_below (suc n) f)
  unfolding max_below
  max_at zero = (0, omega arith, omega arith)
  max_at (suc n) =
      let w = max_at n in
      on_lt (max_below (suc n) f) (f (suc n))
      (λ l. (suc n, omega arith, omega arith))
      (λ l. (w.0, let b = w.1 in omega arith, let e = w.2 in omega arith))

  -- one number more: it is higher than those before it, or it is not
  module _ (n : ℕ) where
    pub max_here : max_below n f < f n → max_below (n + 1) f ≡ f n
    unfolding max_below
    max_here h = rw add-one (omega arith)

    pub max_stays : f n ≤ max_below n f → max_below (n + 1) f ≡ max_below n f
    unfolding max_below
    max_stays h = rw add-one (omega arith)

  -- where it is reached first
  abbrev pub first_most : ℕ → ℕ
  first_most n = first_below n (λ i. eqb (f i) (max_below n f))

  pub first_most_lem : (n : ℕ) → (first_most (suc n) < suc n) × (f (first_most (suc n)) ≡ max_below (suc n) f)
  first_most_lem n =
      let w = max_at n in
      let g : ℕ → Bool = λ i. eqb (f i) (max_below (suc n) f) in
      let l = first_found g (suc n) (some_of g (suc n) w.0 w.1 (eq-eqb (f w.0) (max_below (suc n) f) w.2)) in
      (l, eqb-true _ _ (first_passes g (suc n) l))

  pub before_first_most : (n k : ℕ) → k < first_most n → f k < max_below n f
  before_first_most n k h =
      let g : ℕ → Bool = λ i. eqb (f i) (max_below n f) in
      let a = max_above n k (let b = first_le g n in omega arith) in
      let d = eqb-false (f k) (max_below n f) (first_none_before g n k h) in
      omega arith

  pub first_most_here : (n : ℕ) → max_below n f < f n → first_most (n + 1) ≡ n
  first_most_here n h =
      let m = max_here n h in
      first_is (λ i. eqb (f i) (max_below (n + 1) f)) (n + 1) n (omega arith) (eq-eqb (f n) (max_below (n + 1) f) (sym m)) (λ j l. ne_eqb (f j) (max_below (n + 1) f) (λ e. let a = max_above n j l in omega arith))

  pub first_most_stays : (n : ℕ) → f n ≤ max_below n f → first_most (n + 1) ≡ first_most n
  unfolding max_below first_below
  first_most_stays zero h = let z : f 0 ≡ 0 = omega arith in rw z
  first_most_stays (suc n) h =
      let w = first_most_lem n in
      let m = max_stays (suc n) h in
      first_is (λ i. eqb (f i) (max_below (suc n + 1) f)) (suc n + 1) (first_most (suc n)) (let l = w.0 in omega arith) (eq-eqb (f (first_most (suc n))) (max_below (suc n + 1) f) (w.1 ∙ sym m))
      (λ j l. ne_eqb (f j) (max_below (suc n + 1) f) (λ e. let a = before_first_most (suc n) j l in omega arith))

-- ---- the lowest

module _ (b : ℕ) (f : ℕ → ℕ) where
  pub min_below_lem : (n k : ℕ) → k < n → min_below b n f ≤ f k
  unfolding min_below
  min_below_lem zero k h = absurd (omega arith)
  min_below_lem (suc n) k h =
      below_suc k n h (λ l. let i = min_below_lem n k l in omega arith) (λ q. let i = ap f q in omega arith)

  -- it is b, or reached
  pub min_at : (n : ℕ) → min_below b n f < b → (k : ℕ) × (k < n) × (f k ≡ min_below b n f)
  unfolding min_below
  min_at zero h = absurd (omega arith)
  min_at (suc n) h =
      on_lt (f n) (min_below b n f)
      (λ l. (n, omega arith, omega arith))
      (λ l. let w = min_at n (omega arith) in (w.0, (let i = w.1 in omega arith), (let e = w.2 in omega arith)))

-- ---- what depends on the tests below n alone

pub all_cong : (n : ℕ) {f g : ℕ → Bool} → ((k : ℕ) → k < n → f k ≡ g k) → all_below n f ≡ all_below n g
unfolding all_below
all_cong zero h = refl
all_cong (suc n) h = ap₂ ◌&&◌ (all_cong n (λ k l. h k (omega arith))) (h n (omega arith))

pub some_cong : (n : ℕ) {f g : ℕ → Bool} → ((k : ℕ) → k < n → f k ≡ g k) → some_below n f ≡ some_below n g
unfolding some_below
some_cong zero h = refl
some_cong (suc n) h = ap₂ ◌||◌ (some_cong n (λ k l. h k (omega arith))) (h n (omega arith))

pub sum_cong : (n : ℕ) {f g : ℕ → ℕ} → ((k : ℕ) → k < n → f k ≡ g k) → sum_below n f ≡ sum_below n g
unfolding sum_below
sum_cong zero h = refl
sum_cong (suc n) h = ap₂ ◌+◌ (sum_cong n (λ k l. h k (omega arith))) (h n (omega arith))

-- a sum of n numbers, each at most b; each at least b; and each b
pub sum_most : (n b : ℕ) {f : ℕ → ℕ} → ((k : ℕ) → k < n → f k ≤ b) → sum_below n f ≤ b * n
unfolding sum_below
sum_most zero b h = omega arith
sum_most (suc n) b h =
    let i = sum_most n b (λ k l. h k (omega arith)) in
    let j = h n (omega arith) in
    let m = mul-suc b n in
    omega arith

pub sum_least : (n b : ℕ) (f : ℕ → ℕ) → ((k : ℕ) → k < n → b ≤ f k) → b * n ≤ sum_below n f
unfolding sum_below
sum_least zero b f h = let m = mul-zero b in omega arith
sum_least (suc n) b f h =
    let i = sum_least n b f (λ k l. h k (omega arith)) in
    let j = h n (omega arith) in
    let m = mul-suc b n in
    omega arith

pub sum_same : (n b : ℕ) {f : ℕ → ℕ} → ((k : ℕ) → k < n → f k ≡ b) → sum_below n f ≡ b * n
unfolding sum_below
sum_same zero b h = sym (mul-zero b)
sum_same (suc n) b h =
    let i = sum_same n b (λ k l. h k (omega arith)) in
    let j = h n (omega arith) in
    let m = mul-suc b n in
    omega arith

pub sum_zero : (f : ℕ → ℕ) → sum_below 0 f ≡ 0
unfolding sum_below
sum_zero f = refl

pub sum_more : (n : ℕ) (f : ℕ → ℕ) → sum_below (n + 1) f ≡ sum_below n f + f n
unfolding sum_below
sum_more n f = rw add-one

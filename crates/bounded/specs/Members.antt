-- The members of a list of numbers: whether one is, where it stands, how many there are; and lists that rise, so that none stands twice.
use Rattle.std.specs.Prelude.{ℕ, zero, suc, ◌+◌, ◌≤◌, ◌<◌, ◌≡◌, refl, ◌↔◌, ◌⊎◌, Bool, true, false, not, ◌&&◌, length, get_or}
use Rattle.std.proofs.Common.{arith, sym, ap, ◌∙◌, inl, inr, ⊎_elim, length-append}
use mathlib.Core.List.Memᴰ
use mathlib.Core.List.{List, [], ◌∷◌, ◌++◌, Memᴰ}
use Rattle.bounded.specs.Choice.{on_eq, on_test}
use Rattle.bounded.specs.Below.{list_below}
use Rattle.bounded.specs.Passing.{list_exactly}

-- a number stands in a list, or not
pub listed? : (k : ℕ) (l : List ℕ) → Memᴰ k l ⊎ ¬ (Memᴰ k l)
listed? k [] = inr Memᴰ.not-nil
listed? k (x ∷ l) = on_eq k x (λ e. inl (Memᴰ.head e)) (λ d. by d (listed? k l))
  where
    by : ¬ (k ≡ x) → Memᴰ k l ⊎ ¬ (Memᴰ k l) → Memᴰ k (x ∷ l) ⊎ ¬ (Memᴰ k (x ∷ l))
    by d (inl m) = inl (Memᴰ.tail m)
    by d (inr n) = inr (λ m. ⊎_elim d n (Memᴰ.cases_cons m))

-- the members of a list are its entries by index
pub member_at : (l : List ℕ) (k : ℕ) → Memᴰ k l → (i : ℕ) × (i < length l) × (get_or l i 0 ≡ k)
member_at [] k m = absurd (Memᴰ.not-nil m)
member_at (x ∷ l) k m =
    ⊎_elim
    (λ e. (0, omega arith, sym e))
    (λ n. let w = member_at l k n in (suc w.0, (let b = w.1 in omega arith), w.2))
    (Memᴰ.cases_cons m)

pub entry_member : (l : List ℕ) (i k : ℕ) → i < length l → get_or l i 0 ≡ k → Memᴰ k l
entry_member [] i k h e = absurd (omega arith)
entry_member (x ∷ l) zero k h e = Memᴰ.head (sym e)
entry_member (x ∷ l) (suc i) k h e = Memᴰ.tail (entry_member l i k (omega arith) e)

-- the members of the list of numbers that pass
pub list_members : (f : ℕ → Bool) (n k : ℕ) → Memᴰ k (list_below n f) ↔ ((k < n) × (f k ≡ true))
list_members f n k = (
  λ m. (list_exactly f n k).0 (member_at (list_below n f) k m),
  λ p. let w = (list_exactly f n k).1 p in entry_member (list_below n f) w.0 k w.1 w.2,
)

-- where none passes it is empty
pub list_none : (f : ℕ → Bool) (n : ℕ) → ((k : ℕ) → k < n → f k ≡ false) → list_below n f ≡ []
unfolding list_below
list_none f zero none = refl
list_none f (suc n) none = rw (none n (omega arith)) (list_none f n (λ k h. none k (omega arith)))

-- ---- how many pass

-- one number more
pub count_more : (f : ℕ → Bool) (n : ℕ) → f n ≡ true → length (list_below (suc n) f) ≡ suc (length (list_below n f))
unfolding list_below
count_more f n e = rw (list_below, e) (let l = length-append (list_below n f) (n ∷ []) in omega arith)

pub count_stays : (f : ℕ → Bool) (n : ℕ) → f n ≡ false → length (list_below (suc n) f) ≡ length (list_below n f)
unfolding list_below
count_stays f n e = rw (list_below, e)

-- at most n of those below n
pub count_below : (f : ℕ → Bool) (n : ℕ) → length (list_below n f) ≤ n
unfolding list_below
count_below f zero = omega arith
count_below f (suc n) =
    let i = count_below f n in
    on_test (f n) (λ e. let c = count_more f n e in omega arith) (λ e. let c = count_stays f n e in omega arith)

-- where one test passes wherever another does
pub count_most : (f g : ℕ → Bool) (n : ℕ) → ((k : ℕ) → k < n → f k ≡ true → g k ≡ true) → length (list_below n f) ≤ length (list_below n g)
unfolding list_below
count_most f g zero h = omega arith
count_most f g (suc n) h =
    let rest = count_most f g n (λ k l. h k (omega arith)) in
    on_test (f n)
    (λ e. let a = count_more f n e in let b = count_more g n (h n (omega arith) e) in omega arith)
    (λ e. let a = count_stays f n e in on_test (g n) (λ t. let b = count_more g n t in omega arith) (λ t. let b = count_stays g n t in omega arith))

-- those that pass one test, by whether they pass another
pub count_split : (f g : ℕ → Bool) (n : ℕ) → length (list_below n f) ≡ length (list_below n (λ k. f k && g k)) + length (list_below n (λ k. f k && not (g k)))
unfolding list_below
count_split f g zero = refl
count_split f g (suc n) =
    let rest = count_split f g n in
    on_test (f n)
    (λ e. let a = count_more f n e in
    on_test (g n)
    (λ t. let b = count_more (λ k. f k && g k) n (rw (e, t)) in let c = count_stays (λ k. f k && not (g k)) n (rw (e, t)) in omega arith)
    (λ t. let b = count_stays (λ k. f k && g k) n (rw (e, t)) in let c = count_more (λ k. f k && not (g k)) n (rw (e, t)) in omega arith))
    (λ e. let a = count_stays f n e in let b = count_stays (λ k. f k && g k) n (rw e) in let c = count_stays (λ k. f k && not (g k)) n (rw e) in omega arith)

-- ---- lists that rise

-- the list rises, from b on and below n
unfoldable pub Rises : (b n : ℕ) → List ℕ → Type 0
Rises b n [] = b ≤ n
Rises b n (x ∷ l) = (b ≤ x) × (x < n) × Rises (suc x) n l

pub rises_member : (b n : ℕ) (l : List ℕ) → Rises b n l → (k : ℕ) → Memᴰ k l → (b ≤ k) × (k < n)
unfolding Rises
rises_member b n [] r k m = absurd (Memᴰ.not-nil m)
rises_member b n (x ∷ l) r k m =
    ⊎_elim
    (λ e. ((let a = r.0 in omega arith), (let c = r.1 in omega arith)))
    (λ t. let w = rises_member (suc x) n l r.2 k t in ((let a = r.0 in let d = w.0 in omega arith), w.1))
    (Memᴰ.cases_cons m)

rises_wider : (b n : ℕ) (l : List ℕ) → Rises b n l → Rises b (suc n) l
unfolding Rises
rises_wider b n [] r = omega arith
rises_wider b n (x ∷ l) r = (r.0, (let c = r.1 in omega arith), rises_wider (suc x) n l r.2)

rises_on : (b n : ℕ) (l : List ℕ) → Rises b n l → Rises b (suc n) (l ++ (n ∷ []))
unfolding Rises
rises_on b n [] r = (r, omega arith, omega arith)
rises_on b n (x ∷ l) r = (r.0, (let c = r.1 in omega arith), rises_on (suc x) n l r.2)

-- the list of numbers that pass rises
pub list_rises : (f : ℕ → Bool) (n : ℕ) → Rises 0 n (list_below n f)
unfolding Rises list_below
list_rises f zero = omega arith
list_rises f (suc n) = on_test (f n) (λ e. rw (list_below, e) (rises_on 0 n (list_below n f) (list_rises f n))) (λ e. rw (list_below, e) (rises_wider 0 n (list_below n f) (list_rises f n)))

-- so that no entry stands twice
pub rises_apart : (b n : ℕ) (l : List ℕ) → Rises b n l → (i j : ℕ) → i < length l → j < length l → get_or l i 0 ≡ get_or l j 0 → i ≡ j
unfolding Rises
rises_apart b n [] r i j h k e = absurd (omega arith)
rises_apart b n (x ∷ l) r zero zero h k e = refl
rises_apart b n (x ∷ l) r zero (suc j) h k e = absurd (let w = rises_member (suc x) n l r.2 (get_or l j 0) (entry_member l j (get_or l j 0) (omega arith) refl) in let a = w.0 in omega arith)
rises_apart b n (x ∷ l) r (suc i) zero h k e = absurd (let w = rises_member (suc x) n l r.2 (get_or l i 0) (entry_member l i (get_or l i 0) (omega arith) refl) in let a = w.0 in omega arith)
rises_apart b n (x ∷ l) r (suc i) (suc j) h k e = let q = rises_apart (suc x) n l r.2 i j (omega arith) (omega arith) e in omega arith

-- ---- how many pass

-- one, where just one does
pub count_one : (f : ℕ → Bool) (n k : ℕ) → k < n → f k ≡ true → ((j : ℕ) → j < n → f j ≡ true → j ≡ k) → length (list_below n f) ≡ 1
count_one f zero k h e one = absurd (omega arith)
count_one f (suc n) k h e one =
    on_eq n k
    (λ q. let c = count_more f n (ap f q ∙ e) in
    let none = list_none f n (λ j l. on_test (f j) (λ t. absurd (let s = one j (omega arith) t in omega arith)) (λ t. t)) in
    let z = ap length none in omega arith)
    (λ d. let c = count_stays f n (on_test (f n) (λ t. absurd (d (one n (omega arith) t))) (λ t. t)) in
    let rest = count_one f n k (omega arith) e (λ j l t. one j (omega arith) t) in omega arith)

-- as many, where the same do
pub count_same : (f g : ℕ → Bool) (n : ℕ) → ((k : ℕ) → k < n → f k ≡ g k) → length (list_below n f) ≡ length (list_below n g)
count_same f g n same =
    let a = count_most f g n (λ k h e. sym (same k h) ∙ e) in
    let b = count_most g f n (λ k h e. same k h ∙ e) in
    omega arith

-- n + 1 numbers below n are not all different; and a walk that never merges comes back to its start.
use Rattle.std.specs.Prelude.{ℕ, zero, suc, ◌-◌, ◌≤◌, ◌<◌, ◌≡◌, ◌⊎◌, true, false, cond, ltb, eqb}
use Rattle.std.proofs.Common.{arith, sym, inl, inr, lt-ltb, le-ltb, eqb-true}
use Rattle.std.proofs.lemmas.Bool.{eqb-false}
use Rattle.bounded.specs.Choice.{on_lt}
use Rattle.bounded.specs.BelowLaws.{some_search}

-- y with the value x squeezed out
squeezed : ℕ → ℕ → ℕ
squeezed x y = cond (ltb y x) y (y - 1)

squeezed_low : (x y : ℕ) → y < x → squeezed x y ≡ y
unfolding squeezed
squeezed_low x y h = rw (lt-ltb y x h)

squeezed_high : (x y : ℕ) → x ≤ y → squeezed x y ≡ y - 1
unfolding squeezed
squeezed_high x y h = rw (le-ltb y x h)

squeezed_below : (m x y : ℕ) → x < suc m → y < suc m → ¬ (y ≡ x) → squeezed x y < m
squeezed_below m x y hx hy d =
    on_lt y x (λ l. let e = squeezed_low x y l in omega arith) (λ l. let e = squeezed_high x y l in omega arith)

squeezed_apart : (x y z : ℕ) → ¬ (y ≡ x) → ¬ (z ≡ x) → squeezed x y ≡ squeezed x z → y ≡ z
squeezed_apart x y z dy dz e =
    on_lt y x
    (λ a. let ey = squeezed_low x y a in on_lt z x (λ b. let ez = squeezed_low x z b in omega arith) (λ b. let ez = squeezed_high x z b in omega arith))
    (λ a. let ey = squeezed_high x y a in on_lt z x (λ b. let ez = squeezed_low x z b in omega arith) (λ b. let ez = squeezed_high x z b in omega arith))

-- two different places, the later at most n, with the same value
abbrev pub Meets : (ℕ → ℕ) → ℕ → Type 0
Meets a n = (i : ℕ) × (j : ℕ) × (i < j) × (j ≤ n) × (a i ≡ a j)

pub pigeonhole : (n : ℕ) (a : ℕ → ℕ) → ((i : ℕ) → i ≤ n → a i < n) → Meets a n
pigeonhole zero a h = absurd (let l = h 0 (omega arith) in omega arith)
pigeonhole (suc n) a h = last (some_search (λ i. eqb (a i) (a (suc n))) (suc n)) (λ b hb. pigeonhole n b hb)
  where
    x : ℕ
    x = a (suc n)

    last : ((k : ℕ) × (k < suc n) × (eqb (a k) x ≡ true)) ⊎ ((k : ℕ) → k < suc n → eqb (a k) x ≡ false) → ((b : ℕ → ℕ) → ((i : ℕ) → i ≤ n → b i < n) → Meets b n) → Meets a (suc n)
    last (inl w) rest = (w.0, suc n, w.1, omega arith, eqb-true (a w.0) x w.2)
    last (inr none) rest =
        let d : (i : ℕ) → i ≤ n → ¬ (a i ≡ x) = λ i l. eqb-false (a i) x (none i (omega arith)) in
        let m = rest (λ i. squeezed x (a i)) (λ i l. squeezed_below n x (a i) (h (suc n) (omega arith)) (h i (omega arith)) (d i l)) in
        (m.0, m.1, m.2, omega arith, squeezed_apart x (a m.0) (a m.1) (d m.0 (omega arith)) (d m.1 (omega arith)) m.4)

-- a walk of n steps through numbers below n, in which equal places come from equal places, is back at its start within n steps
pub comes_back_lem :
    (n : ℕ) (a : ℕ → ℕ)
    → ((i : ℕ) → i ≤ n → a i < n)
    → ((i j : ℕ) → i < n → j < n → a (suc i) ≡ a (suc j) → a i ≡ a j)
    → (k : ℕ) × (1 ≤ k) × (k ≤ n) × (a k ≡ a 0)
comes_back_lem n a below merges = let m = pigeonhole n a below in down m.0 m.1 m.2 m.3 m.4
  where
    down : (i j : ℕ) → i < j → j ≤ n → a i ≡ a j → (k : ℕ) × (1 ≤ k) × (k ≤ n) × (a k ≡ a 0)
    down zero j h l e = (j, omega arith, l, sym e)
    down (suc i) zero h l e = absurd (omega arith)
    down (suc i) (suc j) h l e = down i j (omega arith) (omega arith) (merges i j (omega arith) (omega arith) e)

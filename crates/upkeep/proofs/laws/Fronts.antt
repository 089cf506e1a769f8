-- Lists that rise: two with the same members are one; and the front of one, and what stands behind it.
use Rattle.std.specs.Prelude.{ℕ, zero, suc, ◌≤◌, ◌<◌, ◌≡◌, refl, Bool, length, take, drop}
use Rattle.std.proofs.Common.{arith, sym, ap, ◌∙◌, subst, ⊎_elim}
use mathlib.Core.List.Memᴰ
use mathlib.Core.List.{List, [], ◌∷◌, Memᴰ}
use Rattle.bounded.specs.Below.{list_below}
use Rattle.bounded.specs.Members.{list_members, Rises, rises_member, list_rises}

-- what stands in the front of a list stands in it
pub front_member : (n : ℕ) (l : List ℕ) (k : ℕ) → Memᴰ k (take n l) → Memᴰ k l
front_member zero l k m = absurd (Memᴰ.not-nil m)
front_member (suc n) [] k m = m
front_member (suc n) (x ∷ l) k m = ⊎_elim (λ e. Memᴰ.head e) (λ t. Memᴰ.tail (front_member n l k t)) (Memᴰ.cases_cons m)

pub rises_front : (n b S : ℕ) (l : List ℕ) → Rises b S l → Rises b S (take n l)
unfolding Rises
rises_front zero b S [] r = r
rises_front zero b S (x ∷ l) r = let a = r.0 in let c = r.1 in omega arith
rises_front (suc n) b S [] r = r
rises_front (suc n) b S (x ∷ l) r = (r.0, r.1, rises_front n (suc x) S l r.2)

rises_from : (b c S : ℕ) (l : List ℕ) → b ≤ c → Rises c S l → Rises b S l
unfolding Rises
rises_from b c S [] h r = omega arith
rises_from b c S (x ∷ l) h r = ((let a = r.0 in omega arith), r.1, r.2)

-- two rising lists with the same members
pub rises_same :
    (b S : ℕ) (l m : List ℕ) → Rises b S l → Rises b S m → ((k : ℕ) → Memᴰ k l → Memᴰ k m) → ((k : ℕ) → Memᴰ k m → Memᴰ k l) → l ≡ m
unfolding Rises
rises_same b S [] [] r q forth back = refl
rises_same b S [] (y ∷ m) r q forth back = absurd (Memᴰ.not-nil (back y (Memᴰ.head refl)))
rises_same b S (x ∷ l) [] r q forth back = absurd (Memᴰ.not-nil (forth x (Memᴰ.head refl)))
rises_same b S (x ∷ l) (y ∷ m) r q forth back =
    subst (λ (z : ℕ). x ∷ l ≡ z ∷ m) same
    (ap (λ (t : List ℕ). x ∷ t)
    (rises_same (suc x) S l m r.2 rises
    (λ k t. ⊎_elim (λ e. absurd (let a = (rises_member (suc x) S l r.2 k t).0 in let z = same in omega arith)) (λ u. u) (Memᴰ.cases_cons (forth k (Memᴰ.tail t))))
    (λ k t. ⊎_elim (λ e. absurd (let a = (rises_member (suc x) S m rises k t).0 in omega arith)) (λ u. u) (Memᴰ.cases_cons (back k (Memᴰ.tail t))))))
  where
    above : y ≤ x
    above = ⊎_elim (λ e. omega arith) (λ t. let a = (rises_member (suc y) S m q.2 x t).0 in omega arith) (Memᴰ.cases_cons (forth x (Memᴰ.head refl)))

    below : x ≤ y
    below = ⊎_elim (λ e. omega arith) (λ t. let a = (rises_member (suc x) S l r.2 y t).0 in omega arith) (Memᴰ.cases_cons (back y (Memᴰ.head refl)))

    same : x ≡ y
    same = let a = above in let c = below in omega arith

    rises : Rises (suc x) S m
    rises = subst (λ (z : ℕ). Rises (suc z) S m) (sym same) q.2

-- the numbers that pass one test and those that pass another, where the tests agree
pub list_same : (S : ℕ) (f g : ℕ → Bool) → ((k : ℕ) → k < S → f k ≡ g k) → list_below S f ≡ list_below S g
list_same S f g same =
    rises_same 0 S (list_below S f) (list_below S g) (list_rises f S) (list_rises g S)
    (λ k m. let p = (list_members f S k).0 m in (list_members g S k).1 (p.0, sym (same k p.0) ∙ p.1))
    (λ k m. let p = (list_members g S k).0 m in (list_members f S k).1 (p.0, same k p.0 ∙ p.1))

-- ---- what stands behind the front

pub behind_member : (n : ℕ) (l : List ℕ) (k : ℕ) → Memᴰ k (drop n l) → Memᴰ k l
behind_member zero l k m = m
behind_member (suc n) [] k m = m
behind_member (suc n) (x ∷ l) k m = Memᴰ.tail (behind_member n l k m)

pub rises_behind : (n b S : ℕ) (l : List ℕ) → Rises b S l → Rises b S (drop n l)
unfolding Rises
rises_behind zero b S l r = r
rises_behind (suc n) b S [] r = r
rises_behind (suc n) b S (x ∷ l) r = rises_from b (suc x) S (drop n l) (let a = r.0 in omega arith) (rises_behind n (suc x) S l r.2)

-- a member stands in the front or behind it,
pub front_or_behind : (n : ℕ) (l : List ℕ) (k : ℕ) → Memᴰ k l → ¬ (Memᴰ k (take n l)) → Memᴰ k (drop n l)
front_or_behind zero l k m f = m
front_or_behind (suc n) [] k m f = m
front_or_behind (suc n) (x ∷ l) k m f = ⊎_elim (λ e. absurd (f (Memᴰ.head e))) (λ t. front_or_behind n l k t (λ u. f (Memᴰ.tail u))) (Memᴰ.cases_cons m)

-- and of a rising list not in both
pub not_both : (n b S : ℕ) (l : List ℕ) → Rises b S l → (k : ℕ) → Memᴰ k (drop n l) → ¬ (Memᴰ k (take n l))
unfolding Rises
not_both zero b S l r k m f = Memᴰ.not-nil f
not_both (suc n) b S [] r k m f = Memᴰ.not-nil f
not_both (suc n) b S (x ∷ l) r k m f =
    ⊎_elim
    (λ e. let a = (rises_member (suc x) S l r.2 k (behind_member n l k m)).0 in omega arith)
    (λ t. not_both n (suc x) S l r.2 k m t)
    (Memᴰ.cases_cons f)

-- a rising list whose members stand in another is no longer
pub rises_fewer : (b S : ℕ) (l m : List ℕ) → Rises b S l → Rises b S m → ((k : ℕ) → Memᴰ k l → Memᴰ k m) → length l ≤ length m
unfolding Rises
rises_fewer b S [] m r q forth = omega arith
rises_fewer b S (x ∷ l) [] r q forth = absurd (Memᴰ.not-nil (forth x (Memᴰ.head refl)))
rises_fewer b S (x ∷ l) (y ∷ m) r q forth =
    ⊎_elim
    (λ e.
    let rises : Rises (suc x) S m = subst (λ (z : ℕ). Rises (suc z) S m) (sym e) q.2 in
    let i = rises_fewer (suc x) S l m r.2 rises
    (λ k t. ⊎_elim (λ d. absurd (let a = (rises_member (suc x) S l r.2 k t).0 in omega arith)) (λ u. u) (Memᴰ.cases_cons (forth k (Memᴰ.tail t)))) in
    omega arith)
    (λ t.
    let a = (rises_member (suc y) S m q.2 x t).0 in
    let above : Rises (suc y) S (x ∷ l) = (a, r.1, r.2) in
    let i = rises_fewer (suc y) S (x ∷ l) m above q.2
    (λ k u. ⊎_elim (λ d. absurd (let c = (rises_member (suc y) S (x ∷ l) above k u).0 in omega arith)) (λ z. z) (Memᴰ.cases_cons (forth k u))) in
    omega arith)
    (Memᴰ.cases_cons (forth x (Memᴰ.head refl)))

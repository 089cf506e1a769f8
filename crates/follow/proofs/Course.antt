-- The course of a walk: the pages that its links lead to, and the whole walk, its end and its number of links, where it ends.
-- Over any table of verdicts: all that is known of following rests on this.
use Prim.Native.Nat.{ℕ, zero, suc, ◌+◌, ◌-◌, ◌≤◌, ◌<◌}
use native.Mathlib.Omega.{arith}
use Rattle.std.specs.Prelude.{◌≡◌, ◌⊎◌, cond, eqb}
use Rattle.std.proofs.Math.Path.{refl, ap}
use Rattle.std.proofs.Common.{sym, ◌∙◌, subst, inl, inr}
use borrow.Author.Tests.{eq-eqb, ne_eqb}
use Rattle.bounded.specs.Choice.{on_eq}
use Rattle.follow.specs.declared.Verdict.{Verdict}
use Rattle.follow.specs.declared.Verdict.TheVariants as says
use Rattle.follow.specs.declared.End.{End}
use Rattle.follow.specs.declared.End.TheVariants as ends
use Rattle.follow.specs.Follow.{ends_here, one_more, link, follow_from, StaysInside}
use Rattle.follow.specs.Steps.{Leads, here, onward, EndsAt, committed, uncommitted, back}

-- a walk of n links at the most: fewer lead to a link that ends it, or all n lead on
pub data Course (v : ℕ → Verdict) (start n : ℕ) : Type 0 where
  ended : {k q : ℕ} {e : End} → Leads v start k q → k < n → EndsAt v start q e → Course v start n
  astray : {q : ℕ} → Leads v start n q → Course v start n

-- ---- the whole walk

-- a link that goes on past the start
goes_on : (v : ℕ → Verdict) (start n q r : ℕ) → v q ≡ says.On r → ¬ (r ≡ start) → follow_from v start (suc n) q ≡ one_more (follow_from v start n r)
unfolding follow_from link
goes_on v start n q r e d = rw (e, link, ne_eqb r start d)

module _ {v : ℕ → Verdict} {start : ℕ} where
  -- a link that ends the walk
  ends_here_lem : {q : ℕ} {e : End} → EndsAt v start q e → (n : ℕ) → follow_from v start (suc n) q ≡ ends_here e
  unfolding follow_from link
  ends_here_lem (committed e) n = rw e
  ends_here_lem (uncommitted e) n = rw e
  ends_here_lem (back e) n = rw (e, link, eq-eqb start start refl)

  -- The walk from the start is the walk from the page that k links lead to, with k links more.
  whole :
      {k q : ℕ}
      → Leads v start k q
      → (n m : ℕ) (e : End)
      → follow_from v start n q ≡ record { end = e; links = m }
      → (N M : ℕ)
      → N ≡ n + k
      → M ≡ m + k
      → follow_from v start N start ≡ record { end = e; links = M }
  unfolding one_more
  whole here n m e w N M i j = let a : N ≡ n = omega arith in let b : M ≡ m = omega arith in rw (a, b) w
  whole (onward {k} {q} {r} l f d) n m e w N M i j =
      whole l (suc n) (m + 1) e (goes_on v start n q r f d ∙ ap one_more w) N M (omega arith) (omega arith)

  -- A link that ends the walk is its last, and counts;
  pub walk_ends : {k q n : ℕ} {e : End} → Leads v start k q → k < n → EndsAt v start q e → follow_from v start n start ≡ record { end = e; links = k + 1 }
  unfolding ends_here
  walk_ends {k} {n = n} {e = e} l h x =
      whole l (suc (n - suc k)) 1 e (ends_here_lem x (n - suc k)) n (k + 1) (omega arith) (omega arith)

  -- where all n links lead on, the walk is astray.
  pub walk_astray : {n q : ℕ} → Leads v start n q → follow_from v start n start ≡ record { end = ends.Astray; links = n }
  unfolding follow_from
  walk_astray {n} l = whole l 0 0 ends.Astray refl n n (omega arith) (omega arith)

-- ---- every walk has a course

module _ (v : ℕ → Verdict) (start : ℕ) where
  -- the link at a page ends the walk, or goes on past the start
  one_link : (q : ℕ) → ((e : End) × EndsAt v start q e) ⊎ ((r : ℕ) × (v q ≡ says.On r) × ¬ (r ≡ start))
  one_link q = by (v q) refl
    where
      by : (x : Verdict) → v q ≡ x → ((e : End) × EndsAt v start q e) ⊎ ((r : ℕ) × (v q ≡ says.On r) × ¬ (r ≡ start))
      by says.Committed e = inl (ends.Committed, committed e)
      by says.Uncommitted e = inl (ends.Uncommitted, uncommitted e)
      by (says.On r) e = on_eq r start (λ s. inl (ends.Committed, back (e ∙ ap says.On s))) (λ d. inr (r, e, d))

  pub course : (n : ℕ) → Course v start n
  course zero = astray here
  course (suc n) = longer (course n)
    where
      longer : Course v start n → Course v start (suc n)
      longer (ended l h x) = ended l (omega arith) x
      longer (astray {q} l) = elim (one_link q) [ inl x ↦ ended l (omega arith) x.1 | inr w ↦ astray (onward l w.1 w.2) ]

-- ---- the pages led to

module _ {v : ℕ → Verdict} {start : ℕ} where
  -- the same way, its number of links written otherwise
  pub as_many : {j k q : ℕ} → Leads v start k q → k ≡ j → Leads v start j q
  as_many {q = q} l e = subst (λ (x : ℕ). Leads v start x q) e l

  -- the last link of a way
  pub last_link : {n r : ℕ} → Leads v start (suc n) r → (q : ℕ) × Leads v start n q × (v q ≡ says.On r) × ¬ (r ≡ start)
  last_link (onward {q = q} l e d) = (q, l, e, d)

  -- one number of links leads to one page
  pub one_page : {k q r : ℕ} → Leads v start k q → Leads v start k r → q ≡ r
  one_page here here = refl
  one_page (onward l e d) (onward m f g) = let i = one_page l m in let j = sym e ∙ ap v i ∙ f in cc

  -- the way on from a page is the same however many links led there
  pub same_way_on : {i j q r : ℕ} → Leads v start i q → Leads v start j q → (n : ℕ) → Leads v start (i + n) r → Leads v start (j + n) r
  same_way_on {j = j} l m zero w =
      let e = one_page l (as_many w (omega arith)) in
      as_many (subst (λ (x : ℕ). Leads v start j x) e m) (omega arith)
  same_way_on {i} {j} {r = r} l m (suc n) w =
      let u = last_link (as_many w (let e : i + suc n ≡ suc (i + n) = omega arith in e)) in
      as_many (onward (same_way_on {r = u.0} l m n u.1) u.2 u.3) (omega arith)

  -- the pages of a way, by the number of links that lead there
  pub pages_led : {n q : ℕ} → Leads v start n q → (page : ℕ → ℕ) × ((k : ℕ) → k ≤ n → Leads v start k (page k))
  pages_led here = (λ k. start, λ k h. as_many here (omega arith))
  pages_led (onward {k = n} {r = r} l e d) = longer (pages_led l)
    where
      longer : (page : ℕ → ℕ) × ((k : ℕ) → k ≤ n → Leads v start k (page k)) → (page : ℕ → ℕ) × ((k : ℕ) → k ≤ suc n → Leads v start k (page k))
      longer w = (λ k. cond (eqb k (suc n)) r (w.0 k), at)
        where
          at : (k : ℕ) → k ≤ suc n → Leads v start k (cond (eqb k (suc n)) r (w.0 k))
          at k h =
              on_eq k (suc n)
              (λ i. rw (eq-eqb k (suc n) i) (as_many (onward l e d) (sym i)))
              (λ i. rw (ne_eqb k (suc n) i) (w.1 k (omega arith)))

  -- where the links stay among P pages, so does the way
  pub led_inside : {P : ℕ} → start < P → StaysInside P v → {k q : ℕ} → Leads v start k q → q < P
  led_inside h inside here = h
  led_inside h inside (onward {q = q} {r = r} l e d) = inside q r (led_inside h inside l) e

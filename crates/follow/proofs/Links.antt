-- The links that are followed: at most P from each of P pages; each step of a walk is one, and no walk that ends has more; a ring of k pages gives k from each
-- of its pages; a walk's end does not depend on the count.
-- Over any table of verdicts: it serves every family of records.
use Rattle.std.specs.Prelude.{ℕ, zero, suc, ◌+◌, ◌*◌, ◌-◌, ◌≤◌, ◌<◌, ◌≡◌, refl, eqb}
use Rattle.std.proofs.Common.{arith, ◌∙◌, eq-eqb, ne_eqb}
use Rattle.std.proofs.Math.Path.{sym, ap, subst}
use Rattle.std.proofs.Math.Bool.{cond}
use Rattle.bounded.specs.Below.{sum_below}
use Rattle.bounded.specs.BelowLaws.{sum_cong, sum_most, sum_least, sum_same}
use Rattle.bounded.specs.Choice.{on_lt, on_test}
use Rattle.bounded.specs.Pigeonhole.{pigeonhole}
use Rattle.follow.specs.declared.Verdict.{Verdict}
use Rattle.follow.specs.declared.Verdict.TheVariants as says
use Rattle.follow.specs.declared.End.{End}
use Rattle.follow.specs.declared.End.TheVariants as ends
use Rattle.follow.specs.declared.Walk.{Walk}
use Rattle.follow.specs.Follow.{ends_here, one_more, link, follow_from, follow, links_followed, StaysInside}
use Rattle.follow.specs.Steps.{Leads, here, onward, back, Walked, Ring, next_in_ring, link_end, end_from}
use Rattle.follow.proofs.Course.{ended, astray, walk_ends, walk_astray, course, as_many}
use Rattle.follow.proofs.Astray.{ring_astray, not_astray, led_into_ring}

-- ---- the bound

pub links_most : (v : ℕ → Verdict) (start n : ℕ) → (follow_from v start n start).links ≤ n
links_most v start n =
    elim (course v start n) [
      | ended l h x ↦ rw (walk_ends l h x) (omega arith)
      | astray l ↦ rw (walk_astray l) (omega arith)
    ]

-- no table of verdicts exceeds P × P
pub followed_most : (P : ℕ) (v : ℕ → Verdict) → links_followed P v ≤ P * P
unfolding links_followed follow
followed_most P v = sum_most P P (λ p h. links_most v p P)

-- ---- each step is one

-- a walk that is not astray has its end and so many links as it says,
pub links_walked : (P : ℕ) (v : ℕ → Verdict) (start : ℕ) → ¬ ((follow P v start).end ≡ ends.Astray) → Walked v start (follow P v start).end (follow P v start).links
unfolding follow
links_walked P v start sure =
    elim (course v start P) [
      | ended {k = k} {q = q} l h x ↦
          subst (λ (w : Walk). Walked v start w.end w.links) (sym (walk_ends l h x)) (record { before = k; page = q; leads = l; decides = x; counted = refl })
      | astray l ↦ absurd (sure (rw (walk_astray l)))
    ]

-- and no other: a walk that ends is the one that is computed, so P links are enough for it.
pub walked_exactly : (P : ℕ) (v : ℕ → Verdict) (start : ℕ) → start < P → StaysInside P v → (e : End) (n : ℕ) → Walked v start e n → follow P v start ≡ record { end = e; links = n }
unfolding follow
walked_exactly P v start inside closed e n w =
    elim (course v start P) [
      | ended l h x ↦ walk_ends l h x ∙ sym (walk_ends {n = P + n} l (omega arith) x) ∙ far
      | astray {q} l ↦ absurd (not_astray v start w.decides (sym (ap (λ (x : Walk). x.end) far) ∙ ring_astray v start (led_into_ring v start P inside closed l) (P + n)))
    ]
  where
    far : follow_from v start (P + n) start ≡ record { end = e; links = n }
    far = let c = w.counted in walk_ends w.leads (omega arith) w.decides ∙ ap (λ (m : ℕ). record { end = e; links = m }) (sym c)

pub walked_most : (P : ℕ) (v : ℕ → Verdict) (start : ℕ) → start < P → StaysInside P v → (e : End) (n : ℕ) → Walked v start e n → n ≤ P
unfolding follow
walked_most P v start inside closed e n w =
    let m = links_most v start P in
    let i = ap (λ (x : Walk). x.links) (walked_exactly P v start inside closed e n w) in
    omega arith

-- From each of P pages at least one is followed.
pub followed_least : (P : ℕ) (v : ℕ → Verdict) → ((p : ℕ) → p < P → ¬ ((follow P v p).end ≡ ends.Astray)) → P ≤ links_followed P v
unfolding links_followed
followed_least P v sure =
    let l = sum_least P 1 (λ p. (follow P v p).links) (λ p h. let c = (links_walked P v p (sure p h)).counted in omega arith) in
    omega arith

-- The number of links is the sum of those of any walks from the pages.
pub followed_sum :
    (P : ℕ) (v : ℕ → Verdict)
    → StaysInside P v
    → (end : ℕ → End) (links : ℕ → ℕ)
    → ((p : ℕ) → p < P → Walked v p (end p) (links p))
    → links_followed P v ≡ sum_below P links
unfolding links_followed
followed_sum P v closed end links walked =
    sum_cong P (λ p h. ap (λ (w : Walk). w.links) (walked_exactly P v p h closed (end p) (links p) (walked p h)))

-- ---- the end, not counted

pub end_alone : (v : ℕ → Verdict) (start n q : ℕ) → (follow_from v start n q).end ≡ end_from v start n q
unfolding follow_from end_from link link_end ends_here one_more
end_alone v start zero q = refl
end_alone v start (suc n) q = by (v q) (λ r. end_alone v start n r)
  where
    by : (x : Verdict) → ((r : ℕ) → (follow_from v start n r).end ≡ end_from v start n r) → (link start x (λ r. follow_from v start n r)).end ≡ link_end start x (λ r. end_from v start n r)
    by says.Committed rest = refl
    by says.Uncommitted rest = refl
    by (says.On r) rest = on_test (eqb r start) (λ e. rw e) (λ e. rw e (rest r))

-- ---- rings

module _ {v : ℕ → Verdict} {k : ℕ} {page : ℕ → ℕ} (ring : Ring v k page) where
  open ring use {leads_on, closed, apart}

  -- a ring among P pages has at most P
  pub ring_most : (P : ℕ) → ((i : ℕ) → i < k → page i < P) → k ≤ P
  ring_most P inside =
      on_lt P k
      (λ l. let m = pigeonhole P page (λ i h. inside i (omega arith)) in absurd (apart m.0 m.1 m.2 (let h = m.3 in omega arith) m.4))
      (λ l. l)

  module _ (i : ℕ) (h : i < k) where
    -- from page i ahead to the last,
    ahead : (j : ℕ) → i + j < k → Leads v (page i) j (page (i + j))
    ahead zero l = subst (λ (x : ℕ). Leads v (page i) 0 (page x)) (let e : i ≡ i + 0 = omega arith in e) here
    ahead (suc j) l =
        subst (λ (x : ℕ). Leads v (page i) (suc j) (page x)) (let e : suc (i + j) ≡ i + suc j = omega arith in e)
        (onward (ahead j (omega arith)) (leads_on (i + j) (omega arith)) (λ e. apart i (suc (i + j)) (omega arith) (omega arith) (sym e)))

    -- whose link leads to the first,
    to_first : (n : ℕ) → suc (i + n) ≡ k → v (page (i + n)) ≡ says.On (page 0)
    to_first n e = leads_on (i + n) (omega arith) ∙ ap (λ (x : ℕ). says.On (page x)) e ∙ ap says.On closed

    -- and on to the one before page i
    around : (n : ℕ) → suc (i + n) ≡ k → (j : ℕ) → j < i → Leads v (page i) (suc n + j) (page j)
    around n e zero l =
        as_many (onward (ahead n (omega arith)) (to_first n e) (λ q. apart 0 i (omega arith) h q)) (omega arith)
    around n e (suc j) l =
        as_many (onward (around n e j (omega arith)) (leads_on j (omega arith)) (λ q. apart (suc j) i l h q)) (omega arith)

  -- From each of its k pages k links are followed: the k-th is the return.
  pub ring_walk : (n i : ℕ) → k ≤ n → i < k → follow_from v (page i) n (page i) ≡ record { end = ends.Committed; links = k }
  ring_walk n zero m h =
      let e : suc (0 + (k - 1)) ≡ k = omega arith in
      walk_ends (ahead 0 h (k - 1) (omega arith)) (omega arith) (back (to_first 0 h (k - 1) e))
      ∙ ap (λ (x : ℕ). record { end = ends.Committed; links = x }) (let f : (k - 1) + 1 ≡ k = omega arith in f)
  ring_walk n (suc i) m h =
      let d : ℕ = k - suc (suc i) in
      let e : suc (suc i + d) ≡ k = omega arith in
      walk_ends (around (suc i) h d e i (omega arith)) (omega arith) (back (leads_on i (omega arith)))
      ∙ ap (λ (x : ℕ). record { end = ends.Committed; links = x }) (let f : (suc d + i) + 1 ≡ k = omega arith in f)

-- ---- all pages in one ring

module _ (P : ℕ) (v : ℕ → Verdict) (round : (p : ℕ) → p < P → v p ≡ says.On (next_in_ring P p)) where
  -- the pages in their order, and the first again
  page : ℕ → ℕ
  page i = cond (eqb i P) 0 i

  page_is : (i : ℕ) → i < P → page i ≡ i
  unfolding page
  page_is i h = rw (ne_eqb i P (λ e. omega arith))

  all_in_ring : 1 ≤ P → Ring v P page
  unfolding page next_in_ring
  all_in_ring some =
      record {
        leads_on = λ i h. ap v (page_is i h) ∙ round i h;
        closed = ap (λ b. cond b 0 P) (eq-eqb P P refl) ∙ sym (page_is 0 (omega arith));
        apart = λ i j l h e. let a = page_is i (omega arith) in let b = page_is j h in omega arith;
      }

  -- every walk has P links,
  pub one_ring_walk : (p : ℕ) → p < P → follow P v p ≡ record { end = ends.Committed; links = P }
  unfolding follow
  one_ring_walk p h =
      subst (λ (x : ℕ). follow_from v x P x ≡ record { end = ends.Committed; links = P }) (page_is p h) (ring_walk (all_in_ring (omega arith)) P p (omega arith) h)

  -- and all together P × P
  pub one_ring_followed : links_followed P v ≡ P * P
  unfolding links_followed
  one_ring_followed = sum_same P P (λ p h. ap (λ (w : Walk). w.links) (one_ring_walk p h))

-- Where a page's links lead, whatever the start: so many links on they end in a verdict that is not an on, or the page is in a ring.
-- Over any table of verdicts: no record is mentioned.
use Rattle.std.specs.Prelude.{ℕ, zero, suc, ◌+◌, ◌-◌, ◌≤◌, ◌<◌, ◌≡◌}
use native.Mathlib.Omega.{arith}
use Rattle.std.proofs.Math.Path.{refl, subst}
use Rattle.std.proofs.Common.{sym, ap, ◌∙◌}
use Rattle.bounded.specs.Choice.{on_lt, on_eq}
use Rattle.follow.specs.declared.Verdict.{Verdict}
use Rattle.follow.specs.declared.Verdict.TheVariants as says
use Rattle.follow.specs.declared.End.{End}
use Rattle.follow.specs.declared.End.TheVariants as ends
use Rattle.follow.specs.Follow.{follow, StaysInside}
use Rattle.follow.specs.Steps.{Leads, here, onward, committed, uncommitted, back, Walked, Ring}
use Rattle.follow.proofs.Course.{as_many, last_link, one_page, same_way_on, pages_led}
use Rattle.follow.proofs.Links.{walked_most, ring_walk}
use Rattle.follow.specs.Ends.{Ends, InRing, last_committed, last_uncommitted, further}

-- ---- ends

module _ {v : ℕ → Verdict} where
  -- a page has one number of links to its end
  one_distance : {p n m : ℕ} {e f : End} → Ends v p e n → Ends v p f m → n ≡ m
  one_distance (last_committed a) (last_committed b) = refl
  one_distance (last_committed a) (last_uncommitted b) = cc
  one_distance (last_committed a) (further b y) = cc
  one_distance (last_uncommitted a) (last_committed b) = cc
  one_distance (last_uncommitted a) (last_uncommitted b) = refl
  one_distance (last_uncommitted a) (further b y) = cc
  one_distance (further a x) (last_committed b) = cc
  one_distance (further a x) (last_uncommitted b) = cc
  one_distance (further {q = q} a x) (further {q = r} {n = m} {e = f} b y) =
      let s : r ≡ q = cc in ap suc (one_distance x (subst (λ (z : ℕ). Ends v z f m) s y))

  -- a page whose verdict is on has one link more than the page it is on to,
  pub ends_on : {p q n : ℕ} {e : End} → v p ≡ says.On q → Ends v p e n → (m : ℕ) × (n ≡ suc m) × Ends v q e m
  ends_on f (last_committed g) = absurd (let z : ◌≡◌ {A = ℕ} 0 1 = cc in omega arith)
  ends_on f (last_uncommitted g) = absurd (let z : ◌≡◌ {A = ℕ} 0 1 = cc in omega arith)
  ends_on {q = q} f (further {q = r} {n = m} {e = e} g x) = let s : r ≡ q = cc in (m, refl, subst (λ (z : ℕ). Ends v z e m) s x)

  -- and a start as many more as lead to a page
  pub ends_led : {start k q n : ℕ} {e : End} → Leads v start k q → Ends v q e n → Ends v start e (k + n)
  ends_led {start} {n = n} {e = e} here x = subst (λ (m : ℕ). Ends v start e m) (let i : n ≡ 0 + n = omega arith in i) x
  ends_led {start} {n = n} {e = e} (onward {k = k} l f d) x =
      subst (λ (m : ℕ). Ends v start e m) (let i : k + suc n ≡ suc k + n = omega arith in i) (ends_led l (further f x))

  -- Such links are never back at the start, which would have two distances: so they are walked.
  walked_on : {start k q n m : ℕ} {e : End} → Ends v start e m → Leads v start k q → Ends v q e n → m ≡ k + n → Walked v start e m
  walked_on {k = k} {q = q} w l (last_committed f) i = record { before = k; page = q; leads = l; decides = committed f; counted = i }
  walked_on {k = k} {q = q} w l (last_uncommitted f) i = record { before = k; page = q; leads = l; decides = uncommitted f; counted = i }
  walked_on {start} {e = e} w l (further {q = r} {n = n} f x) i =
      on_eq r start
      (λ s. let j = one_distance w (subst (λ (z : ℕ). Ends v z e n) s x) in absurd (omega arith))
      (λ d. walked_on w (onward l f d) x (omega arith))

  pub ends_walked : {p n : ℕ} {e : End} → Ends v p e n → Walked v p e n
  ends_walked x = walked_on x here x (omega arith)

  pub ends_some : {p n : ℕ} {e : End} → Ends v p e n → 1 ≤ n
  ends_some x = let c = (ends_walked x).counted in omega arith

-- ---- rings

-- the page that a verdict goes on at
goes_to : Verdict → ℕ
goes_to says.Committed = 0
goes_to says.Uncommitted = 0
goes_to (says.On r) = r

-- page i of the way from a start
way_from : (ℕ → Verdict) → ℕ → ℕ → ℕ
way_from v start zero = start
way_from v start (suc i) = goes_to (v (way_from v start i))

module _ (v : ℕ → Verdict) (start : ℕ) where
  on_way : (i r : ℕ) → v (way_from v start i) ≡ says.On r → way_from v start (suc i) ≡ r
  unfolding way_from goes_to
  on_way i r e = rw e

module _ {v : ℕ → Verdict} {start : ℕ} where
  led_on_way : {k q : ℕ} → Leads v start k q → way_from v start k ≡ q
  unfolding way_from
  led_on_way here = refl
  led_on_way (onward {k} {q} {r} l e d) = on_way v start k r (ap v (led_on_way l) ∙ e)

  -- m links lead to a page whose link is back at the start
  module _ {m q : ℕ} (l : Leads v start m q) (return : v q ≡ says.On start) where
    led_at : (i : ℕ) → i ≤ m → Leads v start i (way_from v start i)
    led_at i h = let t = (pages_led l).1 i h in subst (λ (x : ℕ). Leads v start i x) (sym (led_on_way t)) t

    -- each link before leads on past the start,
    goes_past : (i q' : ℕ) → i < m → Leads v start i q' → v q' ≡ says.On start → ⊥
    goes_past i q' h a e =
        let u = last_link (led_at (suc i) h) in
        let s = one_page a u.1 in
        u.3 (let f = sym u.2 ∙ ap v (sym s) ∙ e in cc)

    links_on_lem : (i : ℕ) → i < suc m → v (way_from v start i) ≡ says.On (way_from v start (suc i))
    links_on_lem i h =
        on_lt i m
        (λ b. let u = last_link (led_at (suc i) b) in ap v (led_on_way u.1) ∙ u.2)
        (λ b. let s : i ≡ m = omega arith in
        let e : v (way_from v start i) ≡ says.On start = ap (λ (j : ℕ). v (way_from v start j)) s ∙ ap v (led_on_way l) ∙ return in
        e ∙ ap says.On (sym (on_way v start i start e)))

    -- and no page comes twice: from the earlier place the way would be back at the start too soon
    no_two : (i j : ℕ) → i < j → j < suc m → way_from v start i ≡ way_from v start j → ⊥
    no_two i j h b e =
        let a = led_at i (omega arith) in
        let c = subst (λ (x : ℕ). Leads v start j x) (sym e) (led_at j (omega arith)) in
        goes_past (i + (m - j)) q (omega arith) (same_way_on c a (m - j) (as_many l (omega arith))) return

    -- So the pages of the way are a ring.
    way_ring : Ring v (suc m) (way_from v start)
    unfolding way_from
    way_ring = record {
      leads_on = links_on_lem;
      closed = on_way v start m start (ap v (led_on_way l) ∙ return);
      apart = no_two;
    }

    pub start_in_ring : (P : ℕ) → start < P → StaysInside P v → InRing P v start (suc m)
    unfolding way_from
    start_in_ring P inside closed =
        record {
          page = way_from v start;
          ring = way_ring;
          few = walked_most P v start inside closed ends.Committed (suc m) (record { before = m; page = q; leads = l; decides = back return; counted = omega arith });
          place = 0;
          within = omega arith;
          there = refl;
        }

module _ {P : ℕ} {v : ℕ → Verdict} {p k : ℕ} (r : InRing P v p k) where
  -- the link of a page in a ring leads to a page in it,
  pub ring_on : (q : ℕ) → v p ≡ says.On q → InRing P v q k
  ring_on q e =
      let f : r.page (suc r.place) ≡ q = (let g = sym (r.ring.leads_on r.place r.within) ∙ ap v r.there ∙ e in cc) in
      let h = r.within in
      on_lt (suc r.place) k
      (λ b. record { page = r.page; ring = r.ring; few = r.few; place = suc r.place; within = b; there = f })
      (λ b. let s : k ≡ suc r.place = omega arith in
      record { page = r.page; ring = r.ring; few = r.few; place = 0; within = omega arith; there = sym r.ring.closed ∙ ap r.page s ∙ f })

  -- and its walk is "Back at the start: committed."
  pub ring_follow : follow P v p ≡ record { end = ends.Committed; links = k }
  unfolding follow
  ring_follow = subst (λ (x : ℕ). follow P v x ≡ record { end = ends.Committed; links = k }) r.there (ring_walk r.ring P r.place r.few r.within)

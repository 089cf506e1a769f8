-- Astray is exactly "the links run into a ring that lacks the start", and P links are enough.
use Rattle.std.specs.Prelude.{ℕ, zero, suc, ◌+◌, ◌-◌, ◌≤◌, ◌<◌, ◌≡◌, ◌↔◌}
use Rattle.std.proofs.Common.{arith, ◌∙◌, subst}
use Rattle.std.proofs.Math.Path.{sym}
use Rattle.bounded.specs.Pigeonhole.{pigeonhole}
use Rattle.follow.specs.declared.Verdict.{Verdict}
use Rattle.follow.specs.declared.End.{End}
use Rattle.follow.specs.declared.End.TheVariants as ends
use Rattle.follow.specs.Follow.{follow_from, follow, StaysInside}
use Rattle.follow.specs.Steps.{Leads, EndsAt, committed, uncommitted, back}
use Rattle.follow.proofs.Course.{Course, ended, astray, walk_ends, walk_astray, course, as_many, same_way_on, pages_led, led_inside}
use Rattle.follow.specs.Astray.{RunsIntoRing}

module _ (v : ℕ → Verdict) (start : ℕ) where
  -- ---- a ring leads on for ever

  module _ (ring : RunsIntoRing v start) where
    -- n links and more lead to the ring's page
    rounds : (n : ℕ) → (m : ℕ) × (n ≤ m) × Leads v start m ring.page
    rounds zero = (ring.before, omega arith, ring.first)
    rounds (suc n) =
        let w = rounds n in
        let s = ring.some_way in
        (w.0 + ring.around, omega arith, same_way_on ring.first w.2 ring.around ring.again)

    -- so any number of links leads on
    pub never_ends : (n : ℕ) → (q : ℕ) × Leads v start n q
    never_ends n = let w = rounds n in let t = pages_led w.2 in (t.0 n, t.1 n w.1)

  -- Such a ring is astray whatever the bound.
  pub ring_astray : RunsIntoRing v start → (n : ℕ) → (follow_from v start n start).end ≡ ends.Astray
  ring_astray ring n = rw (walk_astray (never_ends ring n).1)

  -- ---- P links among P pages lead into a ring

  pub ring_of_lem : (P : ℕ) → ((k q : ℕ) → Leads v start k q → q < P) → (q : ℕ) → Leads v start P q → RunsIntoRing v start
  ring_of_lem P inside q l =
      let t = pages_led l in
      let m = pigeonhole P t.0 (λ i h. inside i (t.0 i) (t.1 i h)) in
      record {
        page = t.0 m.0;
        before = m.0;
        around = m.1 - m.0;
        some_way = omega arith;
        first = t.1 m.0 (omega arith);
        again = subst (λ (x : ℕ). Leads v start (m.0 + (m.1 - m.0)) x) (sym m.4) (as_many (t.1 m.1 m.3) (omega arith));
      }

  -- a walk that has ended is not astray
  pub not_astray : {q : ℕ} {e : End} → EndsAt v start q e → ¬ (e ≡ ends.Astray)
  not_astray (committed f) a = let z : ◌≡◌ {A = ℕ} 0 1 = cc in omega arith
  not_astray (uncommitted f) a = let z : ◌≡◌ {A = ℕ} 0 1 = cc in omega arith
  not_astray (back f) a = let z : ◌≡◌ {A = ℕ} 0 1 = cc in omega arith

  module _ (P : ℕ) (inside : start < P) (closed : StaysInside P v) where
    pub led_into_ring : {q : ℕ} → Leads v start P q → RunsIntoRing v start
    led_into_ring {q} l = ring_of_lem P (λ k r m. led_inside inside closed m) q l

    -- Answer 4's condition is exactly document 01's sentence.
    pub astray_exactly : ((follow P v start).end ≡ ends.Astray) ↔ RunsIntoRing v start
    unfolding follow
    astray_exactly = (λ a. into a (course v start P), λ ring. ring_astray ring P)
      where
        into : (follow_from v start P start).end ≡ ends.Astray → Course v start P → RunsIntoRing v start
        into a (ended l h x) = absurd (not_astray x (rw (walk_ends l h x) at a))
        into a (astray l) = led_into_ring l

    -- A bound above P never changes the result: the walk that ends is the same, its count of links too,
    pub enough_links_counted : (n : ℕ) → P ≤ n → ¬ ((follow P v start).end ≡ ends.Astray) → follow_from v start n start ≡ follow P v start
    unfolding follow
    enough_links_counted n h d =
        elim (course v start P) [
          | ended l i x ↦ walk_ends l (omega arith) x ∙ sym (walk_ends l i x)
          | astray l ↦ absurd (d (rw (walk_astray l)))
        ]

    -- and so is every walk's end.
    pub enough_links : (n : ℕ) → P ≤ n → (follow_from v start n start).end ≡ (follow P v start).end
    unfolding follow
    enough_links n h =
        elim (course v start P) [
          | ended l i x ↦ rw (walk_ends l i x, walk_ends {n = n} l (omega arith) x)
          | astray l ↦ rw (walk_astray l) (ring_astray (led_into_ring l) n)
        ]

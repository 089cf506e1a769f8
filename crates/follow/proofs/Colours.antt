-- Following verdicts among pages that are green or red: a green start ends committed, a red one uncommitted, and none runs astray.
-- Over any table of verdicts: no record and no version is mentioned.
use Rattle.std.specs.Prelude.{ℕ, zero, suc, ◌+◌, ◌≤◌, ◌<◌, ◌≡◌, ◌⊎◌}
use Rattle.std.proofs.Common.{arith, sym, ◌∙◌, subst, inl, inr}
use Rattle.std.proofs.Math.Path.{refl, ap}
use Rattle.follow.specs.declared.Verdict.{Verdict}
use Rattle.follow.specs.declared.Verdict.TheVariants as says
use Rattle.follow.specs.declared.End.{End}
use Rattle.follow.specs.declared.End.TheVariants as ends
use Rattle.follow.specs.Follow.{follow}
use Rattle.follow.specs.Steps.{Leads, here, onward, EndsAt, committed, uncommitted, back}
use Rattle.follow.proofs.Course.{ended, astray, walk_ends, course}
use Rattle.follow.specs.Astray.{RunsIntoRing}
use Rattle.follow.proofs.Astray.{never_ends, ring_of_lem}

-- Green pages: a green page's verdict is committed, or on to a green page, and no two green pages go on to one.
pub record Greens (P : ℕ) (verdict : ℕ → Verdict) (Green : ℕ → Type 0) : Type 0 where
  pub green_below : (p : ℕ) → Green p → p < P
  pub green_verdict : (p : ℕ) → Green p → (verdict p ≡ says.Committed) ⊎ ((q : ℕ) × (verdict p ≡ says.On q) × Green q)
  pub greens_apart : (p p' q : ℕ) → Green p → Green p' → verdict p ≡ says.On q → verdict p' ≡ says.On q → p ≡ p'

-- Red pages, each with a rank: a red page's verdict is uncommitted, or on to a red page of lower rank.
pub record Reds (P : ℕ) (verdict : ℕ → Verdict) (Red : ℕ → ℕ → Type 0) : Type 0 where
  pub red_below : (k p : ℕ) → Red k p → p < P
  pub red_verdict : (k p : ℕ) → Red k p → (verdict p ≡ says.Uncommitted) ⊎ ((q j : ℕ) × (j < k) × (verdict p ≡ says.On q) × Red j q)

module _ {P : ℕ} {verdict : ℕ → Verdict} {Green : ℕ → Type 0} (greens : Greens P verdict Green) where
  open greens use {green_below, green_verdict, greens_apart}

  -- a green page's link leads to a green page,
  green_on : (q r : ℕ) → Green q → verdict q ≡ says.On r → Green r
  green_on q r g e =
      elim (green_verdict q g) [
        | inl c ↦ absurd (let z : ◌≡◌ {A = ℕ} 0 1 = cc in omega arith)
        | inr w ↦ let s : w.0 ≡ r = cc w.1 in subst Green s w.2
      ]

  -- or ends the walk committed
  green_ends : (start q : ℕ) {e : End} → Green q → EndsAt verdict start q e → e ≡ ends.Committed
  green_ends start q g (committed f) = refl
  green_ends start q g (back f) = refl
  green_ends start q g (uncommitted f) = elim (green_verdict q g) [ inl c ↦ cc | inr w ↦ cc w.1 ]

  module _ (p : ℕ) (g : Green p) where
    stays_green : {k q : ℕ} → Leads verdict p k q → Green q
    stays_green here = g
    stays_green (onward {q = q} {r = r} l e d) = green_on q r (stays_green l) e

    -- no green page is met twice: the pages before would be one too, back to the start
    met_again : {i j q q' : ℕ} → Leads verdict p i q → Leads verdict p j q' → q ≡ q' → i < j → ⊥
    met_again here here s h = omega arith
    met_again here (onward m f d) s h = d (sym s)
    met_again (onward l e d) here s h = omega arith
    met_again (onward {q = q} {r = r} l e d) (onward {q = q'} m f c) s h =
        met_again l m (greens_apart q q' r (stays_green l) (stays_green m) e (f ∙ ap says.On (sym s))) (omega arith)

    met_once : {i j q : ℕ} → Leads verdict p i q → Leads verdict p j q → i < j → ⊥
    met_once l m h = met_again l m refl h

    green_no_ring : RunsIntoRing verdict p → ⊥
    green_no_ring ring = let s = ring.some_way in met_once ring.first ring.again (omega arith)

    pub green_committed : (follow P verdict p).end ≡ ends.Committed
    unfolding follow
    green_committed =
        elim (course verdict p P) [
          | ended {q = q} l h x ↦ rw (walk_ends l h x) (green_ends p q (stays_green l) x)
          | astray {q} l ↦ absurd (green_no_ring (ring_of_lem verdict p P (λ k r m. green_below r (stays_green m)) q l))
        ]

module _ {P : ℕ} {verdict : ℕ → Verdict} {Red : ℕ → ℕ → Type 0} (reds : Reds P verdict Red) where
  open reds use {red_below, red_verdict}

  -- a red page's link leads to a red page of lower rank,
  red_on : (k q r : ℕ) → Red k q → verdict q ≡ says.On r → (j : ℕ) × (j < k) × Red j r
  red_on k q r d e =
      elim (red_verdict k q d) [
        | inl u ↦ absurd (let z : ◌≡◌ {A = ℕ} 0 1 = cc in omega arith)
        | inr w ↦ let s : w.0 ≡ r = cc w.3 in (w.1, w.2, subst (λ (x : ℕ). Red w.1 x) s w.4)
      ]

  -- and no red page's verdict is committed
  red_not_committed : (k q : ℕ) → Red k q → verdict q ≡ says.Committed → ⊥
  red_not_committed k q d e =
      let z : ◌≡◌ {A = ℕ} 0 1 = elim (red_verdict k q d) [ inl u ↦ cc | inr w ↦ cc w.3 ] in omega arith

  module _ (p : ℕ) where
    -- after m links the rank has fallen by m at least
    falls : {m q : ℕ} (k : ℕ) → Red k p → Leads verdict p m q → (j : ℕ) × (j + m ≤ k) × Red j q
    falls k d here = (k, omega arith, d)
    falls k d (onward {q = q} {r = r} l e c) =
        let w = falls k d l in
        let x = red_on w.0 q r w.2 e in
        (x.0, (let a = w.1 in let b = x.1 in omega arith), x.2)

    -- so no link is back at the start: its rank would fall for ever,
    no_return : {m q : ℕ} (bound k : ℕ) → k < bound → Red k p → Leads verdict p m q → verdict q ≡ says.On p → ⊥
    no_return zero k h d l e = omega arith
    no_return {q = q} (suc n) k h d l e =
        let w = falls k d l in
        let x = red_on w.0 q p w.2 e in
        no_return n x.0 (let a = w.1 in let b = x.1 in omega arith) x.2 l e

    -- and none leads into a ring
    red_no_ring : (k : ℕ) → Red k p → RunsIntoRing verdict p → ⊥
    red_no_ring k d ring = let w = falls k d (never_ends verdict p ring (suc k)).1 in let a = w.1 in omega arith

    pub red_uncommitted : (k : ℕ) → Red k p → (follow P verdict p).end ≡ ends.Uncommitted
    unfolding follow
    red_uncommitted k d =
        elim (course verdict p P) [
          | ended l h x ↦ rw (walk_ends l h x) (red_ends l x)
          | astray {q} l ↦ absurd (red_no_ring k d (ring_of_lem verdict p P (λ m r u. let w = falls k d u in red_below w.0 r w.2) q l))
        ]
      where
        red_ends : {m q : ℕ} {e : End} → Leads verdict p m q → EndsAt verdict p q e → e ≡ ends.Uncommitted
        red_ends {q = q} l (committed f) = let w = falls k d l in absurd (red_not_committed w.0 q w.2 f)
        red_ends l (uncommitted f) = refl
        red_ends l (back f) = absurd (no_return (suc k) k (omega arith) d l f)

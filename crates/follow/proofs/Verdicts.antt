-- Walks over tables of verdicts.
use Rattle.std.specs.Prelude.{ℕ, ◌<◌, ◌≡◌}
use Rattle.std.proofs.Common.{◌∙◌}
use Rattle.std.proofs.Math.Path.{sym}
use Rattle.follow.specs.declared.Verdict.{Verdict}
use Rattle.follow.specs.declared.End.{End}
use Rattle.follow.specs.Follow.{follow, StaysInside}
use Rattle.follow.specs.Steps.{Leads, here, onward, EndsAt, committed, uncommitted, back}
use Rattle.follow.proofs.Course.{ended, astray, walk_ends, walk_astray, course, led_inside}

-- A walk among P pages depends on their verdicts alone.
module _ (P : ℕ) (v w : ℕ → Verdict) (inside : StaysInside P v) (same : (q : ℕ) → q < P → v q ≡ w q) (start : ℕ) (h : start < P) where
  same_way : {k q : ℕ} → Leads v start k q → Leads w start k q
  same_way here = here
  same_way (onward {q = q} l e d) = onward (same_way l) (sym (same q (led_inside h inside l)) ∙ e) d

  same_end : {q : ℕ} {e : End} → q < P → EndsAt v start q e → EndsAt w start q e
  same_end {q} l (committed e) = committed (sym (same q l) ∙ e)
  same_end {q} l (uncommitted e) = uncommitted (sym (same q l) ∙ e)
  same_end {q} l (back e) = back (sym (same q l) ∙ e)

  pub follow_same : follow P v start ≡ follow P w start
  unfolding follow
  follow_same =
      elim (course v start P) [
        | ended l i x ↦ walk_ends l i x ∙ sym (walk_ends (same_way l) i (same_end (led_inside h inside l) x))
        | astray l ↦ walk_astray l ∙ sym (walk_astray (same_way l))
      ]

-- Write, withdrawal and completion leave a sound state sound.
use Rattle.std.specs.Prelude.{ℕ, ◌≤◌, ◌<◌, ◌≡◌, Bool}
use Rattle.std.proofs.Common.{arith, sym, ◌∙◌}
use Rattle.std.proofs.Math.Path.{refl, ap, subst}
use Rattle.std.proofs.Math.Bool.{true, false}
use Rattle.bounded.specs.Choice.{on_eq, on_test, never}
use Rattle.state.specs.declared.PageState.{PageState}
use Rattle.state.specs.State.{in_flight}
use Rattle.state.specs.StateLaws.{none_rests, PageFacts, StateFacts, facts_cong}
use Rattle.state.specs.Cycle.{on_cycle}
use Rattle.state.specs.Change.{at_rest, written_page, marked, completes, committed_page, completed, withdrawn_page, withdrawn, after_write}
use Rattle.state.specs.Walk.{ended_page, cycle_ended}
use Rattle.state.specs.CycleLaws.{Flies, marked_at, marked_other, marked_next, on_cycle_before}
use Rattle.state.specs.CompletionLaws.{after_write_done, after_write_not}

-- a page is in flight by its next page alone
pub flight_cong : (s t : PageState) → s.next ≡ t.next → in_flight s ≡ in_flight t
unfolding in_flight
flight_cong s t e = rw e

-- ---- a cycle leaves flight

ended_rests : (commits : Bool) (s : PageState) → in_flight (ended_page commits s) ≡ false
unfolding ended_page committed_page withdrawn_page at_rest
ended_rests true s = none_rests (committed_page s) refl
ended_rests false s = none_rests (withdrawn_page s) refl

ended_committed : (commits : Bool) (s : PageState) → s.committed ≤ s.used → (ended_page commits s).committed ≤ (ended_page commits s).used
unfolding ended_page committed_page withdrawn_page at_rest
ended_committed true s h = omega arith
ended_committed false s h = h

ended_used : (commits : Bool) (s : PageState) → (ended_page commits s).used ≡ s.used
unfolding ended_page committed_page withdrawn_page at_rest
ended_used true s = refl
ended_used false s = refl

ended_written : (commits : Bool) (s : PageState) → (ended_page commits s).written ≡ 0
unfolding ended_page committed_page withdrawn_page at_rest
ended_written true s = refl
ended_written false s = refl

module _ (commits : Bool) (P : ℕ) (st : ℕ → PageState) (sound : StateFacts P st) (p : ℕ) (f : Flies P st p) where
  after : ℕ → PageState
  after = cycle_ended commits P st p

  ended_on : (q : ℕ) → on_cycle P st p q ≡ true → after q ≡ ended_page commits (st q)
  unfolding after cycle_ended
  ended_on q e = rw e

  ended_off : (q : ℕ) → on_cycle P st p q ≡ false → after q ≡ st q
  unfolding after cycle_ended
  ended_off q e = rw e

  -- a page still in flight was in flight, off the cycle
  still : (q : ℕ) → in_flight (after q) ≡ true → (on_cycle P st p q ≡ false) × (in_flight (st q) ≡ true) × (after q ≡ st q)
  still q e =
      on_test (on_cycle P st p q)
      (λ on. absurd (never (ap in_flight (sym (ended_on q on)) ∙ e) (ended_rests commits (st q))))
      (λ off. (off, ap in_flight (sym (ended_off q off)) ∙ e, ended_off q off))

  pub ended_sound : StateFacts P (cycle_ended commits P st p)
  unfolding after
  ended_sound = record { page = page; apart = apart }
    where
      page : (q : ℕ) → q < P → PageFacts P after (after q)
      page q l =
          on_test (on_cycle P st p q)
          (λ on. subst (λ (s : PageState). PageFacts P after s) (sym (ended_on q on))
          (record {
            committed_used = ended_committed commits (st q) (sound.page q l).committed_used;
            used_highest = let e = ended_used commits (st q) in let h = (sound.page q l).used_highest in omega arith;
            flies_below_used = λ e. absurd (never e (ended_rests commits (st q)));
            next_below = λ e. absurd (never e (ended_rests commits (st q)));
            next_flies = λ e. absurd (never e (ended_rests commits (st q)));
            written_bit = let e = ended_written commits (st q) in omega arith;
            written_flies = λ h. let e = ended_written commits (st q) in absurd (omega arith);
          }))
          (λ off. subst (λ (s : PageState). PageFacts P after s) (sym (ended_off q off))
          (record {
            committed_used = (sound.page q l).committed_used;
            used_highest = (sound.page q l).used_highest;
            flies_below_used = (sound.page q l).flies_below_used;
            next_below = (sound.page q l).next_below;
            next_flies = λ e. ap in_flight (ended_off (st q).next (next_off q l off e)) ∙ (sound.page q l).next_flies e;
            written_bit = (sound.page q l).written_bit;
            written_flies = (sound.page q l).written_flies;
          }))
        where
          next_off : (q : ℕ) → q < P → on_cycle P st p q ≡ false → in_flight (st q) ≡ true → on_cycle P st p (st q).next ≡ false
          next_off q l off e =
              on_test (on_cycle P st p (st q).next)
              (λ on. absurd (never (on_cycle_before P st sound p f q (record { below = l; flies = e }) on) off))
              (λ o. o)

      apart : (q r : ℕ) → q < P → r < P → in_flight (after q) ≡ true → in_flight (after r) ≡ true → (after q).next ≡ (after r).next → q ≡ r
      apart q r lq lr eq er e =
          let a = still q eq in
          let b = still r er in
          sound.apart q r lq lr a.1 b.1 (ap (λ (s : PageState). s.next) (sym a.2) ∙ e ∙ ap (λ (s : PageState). s.next) b.2)

module _ (P : ℕ) (st : ℕ → PageState) (sound : StateFacts P st) (p : ℕ) (f : Flies P st p) where
  pub withdrawn_sound : StateFacts P (withdrawn P st p)
  unfolding withdrawn cycle_ended ended_page
  withdrawn_sound = ended_sound false P st sound p f

  pub completed_sound : StateFacts P (completed P st p)
  unfolding completed cycle_ended ended_page
  completed_sound = ended_sound true P st sound p f

  -- ---- a page becomes written

  marked_flight : (q : ℕ) → in_flight (marked st p q) ≡ in_flight (st q)
  marked_flight q = flight_cong (marked st p q) (st q) (marked_next st p q)

  marked_facts : (q : ℕ) → q < P → PageFacts P (marked st p) (marked st p q)
  unfolding written_page
  marked_facts q l =
      on_eq q p
      (λ same. subst (λ (x : ℕ). PageFacts P (marked st p) (marked st p x)) (sym same)
      (subst (λ (s : PageState). PageFacts P (marked st p) s) (sym (marked_at st p))
      (record {
        committed_used = h.committed_used;
        used_highest = h.used_highest;
        flies_below_used = λ e. h.flies_below_used f.flies;
        next_below = λ e. h.next_below f.flies;
        next_flies = λ e. marked_flight (st p).next ∙ h.next_flies f.flies;
        written_bit = omega arith;
        written_flies = λ e. flight_cong (written_page (st p)) (st p) refl ∙ f.flies;
      })))
      (λ other. subst (λ (s : PageState). PageFacts P (marked st p) s) (sym (marked_other st p q other))
      (record {
        committed_used = (sound.page q l).committed_used;
        used_highest = (sound.page q l).used_highest;
        flies_below_used = (sound.page q l).flies_below_used;
        next_below = (sound.page q l).next_below;
        next_flies = λ e. marked_flight (st q).next ∙ (sound.page q l).next_flies e;
        written_bit = (sound.page q l).written_bit;
        written_flies = (sound.page q l).written_flies;
      }))
    where
      h : PageFacts P st (st p)
      h = sound.page p f.below

  pub marked_sound : StateFacts P (marked st p)
  marked_sound = record {
    page = marked_facts;
    apart = λ q r lq lr eq er e. sound.apart q r lq lr (sym (marked_flight q) ∙ eq) (sym (marked_flight r) ∙ er) (sym (marked_next st p q) ∙ e ∙ marked_next st p r);
  }

  pub after_write_sound : StateFacts P (after_write P st p)
  after_write_sound =
      on_test (completes P st p)
      (λ c. facts_cong P (completed P st p) (after_write P st p) (λ q l. sym (after_write_done P st sound p f c q)) completed_sound)
      (λ c. facts_cong P (marked st p) (after_write P st p) (λ q l. sym (after_write_not P st sound p f c q)) marked_sound)

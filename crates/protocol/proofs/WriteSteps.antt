-- A write's state against the steps on records: the planned record is sound, a cycle not completed has a page missing, and what a write makes of the state is what these steps ask for.
use Rattle.std.specs.Prelude.{ℕ, ◌<◌, ◌≡◌, refl, List, ◌⊎◌, ◌↔◌, Bool, ◌||◌, eqb}
use Rattle.std.proofs.Common.{sym, ◌∙◌, inl, inr}
use Rattle.std.proofs.Math.Path.{ap, subst}
use Rattle.std.proofs.Math.Bool.{true, false, not}
use borrow.Author.Tests.{eqb-true, eqb-false, not-true, not-false}
use Rattle.bounded.specs.Choice.{on_eq, never, neither_left, neither_right, either}
use Rattle.bounded.specs.BelowLaws.{some_at, some_search}
use Rattle.bounded.specs.Parts.{update}
use Rattle.bounded.specs.PartsLaws.{update_same, update_other}
use Rattle.record.specs.Slot.{record_sound, planned_record}
use Rattle.record.specs.SlotLaws as records
use Rattle.state.specs.declared.PageState.{PageState}
use Rattle.state.specs.State.{in_flight, is_written}
use Rattle.state.specs.StateLaws.{StateFacts, none_rests}
use Rattle.state.specs.Cycle.{along, on_cycle}
use Rattle.state.specs.CycleLaws.{Flies, next_flies, on_cycle_flies, on_cycle_refl, on_cycle_next, on_cycle_before, on_cycle_same}
use Rattle.state.specs.Change.{at_rest, written_page, marked, completes, committed_page, completed}
use Rattle.state.specs.CompletionLaws.{completes_of, completes_at}
use Rattle.protocol.specs.View.{record_view}
use Rattle.protocol.specs.Shared.{plan}
use Rattle.protocol.proofs.OneMore.{Missing, Marks}
use Rattle.protocol.proofs.Completed.{Completes}

-- a page at rest is not in flight
pub at_rest_lem : (c u : ℕ) → in_flight (at_rest c u) ≡ false
unfolding at_rest
at_rest_lem c u = none_rests (at_rest c u) refl

module _ (P : ℕ) (st : ℕ → PageState) (sound : StateFacts P st) (p : ℕ) (f : Flies P st p) where
  -- the record planned for a page in flight is sound, wherever below the used version it points back;
  pub planned_sound_back : (c : ℕ) → c < (st p).used → record_sound P (planned_record p (st p).used c (st p).next (st (st p).next).used) ≡ true
  planned_sound_back c l =
      let n = next_flies P st sound p f in
      records.planned_sound P p (st p).used c (st p).next (st (st p).next).used f.below n.below
      (sound.page p f.below).used_highest (sound.page (st p).next n.below).used_highest l (λ e. ap (λ (x : ℕ). (st x).used) e)

  -- so the one that points back at the committed version is
  pub planned_sound : record_sound P (plan record_view st p) ≡ true
  planned_sound = planned_sound_back (st p).committed ((sound.page p f.below).flies_below_used f.flies)

  -- a page of the cycle that is p or written
  done : ℕ → Bool
  done q = eqb q p || is_written (st q)

  -- where a write of p does not complete its cycle, some page ahead is missing
  pub missing_page : completes P st p ≡ false → (d : ℕ) × Missing st p (along st (st p).next d)
  unfolding on_cycle done
  missing_page e = by (some_search (λ k. not (done (along st (st p).next k))) P)
    where
      found : (q : ℕ) → done q ≡ false → Missing st p q
      found q d = (neither_right (eqb q p) (is_written (st q)) d, eqb-false q p (neither_left (eqb q p) (is_written (st q)) d))

      written : (q : ℕ) → done q ≡ true → ¬ (q ≡ p) → is_written (st q) ≡ true
      written q d other = pick (either (eqb q p) (is_written (st q)) d)
        where
          pick : (eqb q p ≡ true) ⊎ (is_written (st q) ≡ true) → is_written (st q) ≡ true
          pick (inl h) = absurd (other (eqb-true q p h))
          pick (inr h) = h

      by :
          ((k : ℕ) × (k < P) × (not (done (along st (st p).next k)) ≡ true)) ⊎ ((k : ℕ) → k < P → not (done (along st (st p).next k)) ≡ false)
          → (d : ℕ) × Missing st p (along st (st p).next d)
      by (inl w) = (w.0, found (along st (st p).next w.0) (not-true (done (along st (st p).next w.0)) w.2))
      by (inr none) =
          absurd (never
          (completes_of P st sound p f
          (λ q on other.
          let next = on_cycle_next P st sound p f p (on_cycle_refl P st sound p f) in
          let w = some_at (λ k. eqb (along st (st p).next k) q) P (sym (on_cycle_same P st sound p (st p).next q f next) ∙ on) in
          let at = eqb-true (along st (st p).next w.0) q w.2 in
          written q (ap done (sym at) ∙ not-false (done (along st (st p).next w.0)) (none w.0 w.1)) other))
          e)

  -- ---- the page marked written

  -- marking changes nothing that `written` does not
  marked_keeps : (g : PageState → ℕ) → ((s : PageState) → g (written_page s) ≡ g s) → (q : ℕ) → g (marked st p q) ≡ g (st q)
  unfolding marked
  marked_keeps g h q =
      on_eq q p
      (λ e. subst (λ (x : ℕ). g (update st p (written_page (st p)) x) ≡ g (st x)) (sym e) (ap g (update_same st p (written_page (st p))) ∙ h (st p)))
      (λ e. ap g (update_other st p (written_page (st p)) q e))

  pub marks_of :
      {st' : ℕ → PageState} {bytes : List ℕ} {Entered Entered' : ℕ → List ℕ → Type 0}
      → ((q : ℕ) → q < P → st' q ≡ marked st p q)
      → ((q : ℕ) (d : List ℕ) → Entered' q d ↔ (((q ≡ p) × (d ≡ bytes)) ⊎ ((¬ (q ≡ p)) × Entered q d)))
      → Marks P st st' p bytes Entered Entered'
  unfolding marked written_page is_written
  marks_of {st'} {bytes} {Entered} {Entered'} same entered =
      record {
        same_committed = λ q h. ap (λ (s : PageState). s.committed) (same q h) ∙ marked_keeps (λ s. s.committed) (λ s. refl) q;
        same_used = λ q h. ap (λ (s : PageState). s.used) (same q h) ∙ marked_keeps (λ s. s.used) (λ s. refl) q;
        same_next = λ q h. ap (λ (s : PageState). s.next) (same q h) ∙ marked_keeps (λ s. s.next) (λ s. refl) q;
        written_here = ap is_written (same p f.below ∙ update_same st p (written_page (st p)));
        written_there = λ q h d. ap is_written (same q h ∙ update_other st p (written_page (st p)) q d);
        entered_here = (entered p bytes).1 (inl (refl, refl));
        entered_there = λ q b h d e. (entered q b).1 (inr (d, e));
      }

  -- ---- the cycle completed

  completed_on : (q : ℕ) → on_cycle P st p q ≡ true → completed P st p q ≡ at_rest (st q).used (st q).used
  unfolding completed committed_page
  completed_on q c = rw c

  completed_off : (q : ℕ) → on_cycle P st p q ≡ false → completed P st p q ≡ st q
  unfolding completed
  completed_off q c = rw c

  pub completes_with :
      {st' : ℕ → PageState} {bytes : List ℕ} {kept kept' : ℕ → List ℕ} {Entered Entered' : ℕ → List ℕ → Type 0}
      → completes P st p ≡ true
      → ((q : ℕ) → q < P → st' q ≡ completed P st p q)
      → kept' p ≡ bytes
      → ((q : ℕ) → ¬ (q ≡ p) → on_cycle P st p q ≡ true → (d : List ℕ) → Entered q d → kept' q ≡ d)
      → ((q : ℕ) → on_cycle P st p q ≡ false → kept' q ≡ kept q)
      → ((q : ℕ) → on_cycle P st p q ≡ false → (d : List ℕ) → Entered' q d ↔ Entered q d)
      → Completes P st st' p bytes (on_cycle P st p) kept kept' Entered Entered'
  unfolding at_rest
  completes_with {st'} e same own on off entered =
      record {
        cycle_start = on_cycle_refl P st sound p f;
        cycle_flies = flying;
        cycle_next = on_cycle_next P st sound p f;
        cycle_before = on_cycle_before P st sound p f;
        cycle_written_lem = completes_at P st sound p f e;
        committed_on = λ q c. ap (λ (s : PageState). s.committed) (after q c);
        used_on = λ q c. ap (λ (s : PageState). s.used) (after q c);
        rests_on = λ q c. ap in_flight (after q c) ∙ at_rest_lem (st q).used (st q).used;
        same_off = λ q h c. same q h ∙ completed_off q c;
        kept_here = own;
        kept_on = λ q b c d w. on q d c b w;
        kept_off = λ q h c. off q c;
        entered_off = λ q b h c w. (entered q c b).1 w;
      }
    where
      flying : (q : ℕ) → on_cycle P st p q ≡ true → Flies P st q
      flying = on_cycle_flies P st sound p f

      after : (q : ℕ) → on_cycle P st p q ≡ true → st' q ≡ at_rest (st q).used (st q).used
      after q c = same q (flying q c).below ∙ completed_on q c

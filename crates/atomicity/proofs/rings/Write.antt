-- A write enters its bytes in the page's open ring. Where it completes the cycle, the ring closes and its bytes are kept; else the ring stays open.
use Rattle.std.specs.Prelude.{ℕ, ◌≡◌, refl, ◌⊎◌, ◌↔◌, true, false, eqb}
use Rattle.std.proofs.Math.Path.{sym, ap, subst, fun_ext}
use Rattle.std.proofs.Common.{◌∙◌}
use Rattle.std.proofs.Math.Logic.{inl, inr}
use mathlib.Core.List.Memᴰ
use mathlib.Core.List.{List, map}
use Rattle.std.proofs.Math.Bool.{not}
use Rattle.bounded.specs.Choice.{same_test}
use Rattle.bounded.specs.Limits.{no_number}
use Rattle.bounded.specs.PartsLaws.{update_same, update_other}
use Rattle.state.specs.declared.PageState.{PageState}
use Rattle.state.specs.State.{in_flight, is_written}
use Rattle.state.specs.StateLaws.{none_rests, StateFacts}
use Rattle.state.specs.Cycle.{on_cycle}
use Rattle.state.specs.Change.{at_rest, written_page, marked, completes, committed_page, completed, after_write}
use Rattle.state.specs.CycleLaws.{Flies, marked_next}
use Rattle.state.specs.CompletionLaws.{completes_of, completes_at, after_write_done, after_write_not}
use Rattle.atomicity.specs.Model.{Model, Entry, entry_page, has_bytes, in_ring, all_entered, enter_in, keep, enter, close_ring}
use Rattle.atomicity.specs.rings.Match.{pages_of, ring_of, IsEntered, NoRepeats, RunsRound, RingMatches, RingsMatch}
use Rattle.atomicity.proofs.rings.Laws.{in_ring_entry, entry_in_ring, all_entered_at, all_entered_of, entered_in_ring}
use Rattle.atomicity.proofs.rings.Entries.{pages_enter, in_ring_enter, enter_own, enter_other, enter_cases, enter_apart, in_rings_enter, enter_entered, enter_open, enter_closes, keep_other, keep_entered}
use Rattle.atomicity.proofs.rings.Cycle.{runs_same, ring_of_matches, ring_of_has, ring_of_cycle}
use Rattle.atomicity.proofs.rings.Close.{close_match, close_entered}

module _ (P : ℕ) (st : ℕ → PageState) (p : ℕ) (b : List ℕ) where
  marked_own : is_written (marked st p p) ≡ true
  unfolding marked written_page is_written
  marked_own = rw (update_same st p (written_page (st p)))

  marked_other : (q : ℕ) → ¬ (q ≡ p) → marked st p q ≡ st q
  unfolding marked
  marked_other q n = update_other st p (written_page (st p)) q n

  -- the bytes entered and the page marked written, each ring still matches
  enter_ring_matches : (ring : List Entry) → RingMatches P st ring → RingMatches P (marked st p) (enter_in p b ring)
  unfolding entry_page has_bytes
  enter_ring_matches ring m = record {
    runs = subst (λ (l : List ℕ). RunsRound P (marked st p) l) (sym (pages_enter p b ring)) (runs_same P st (marked st p) (pages_of ring) (λ i l. marked_next st p _) m.runs);
    written = λ e s. elim (enter_cases p b e ring s) [
      | inl w ↦ ap (λ (x : Entry). is_written (marked st p (entry_page x))) w.0 ∙ marked_own ∙ ap has_bytes (sym w.0)
      | inr w ↦ ap is_written (marked_other (entry_page e) w.0) ∙ m.written e w.1
    ];
  }

  enter_rings_match : (rings : List (List Entry)) → RingsMatch P st rings → RingsMatch P (marked st p) (map (enter_in p b) rings)
  unfolding in_flight
  enter_rings_match rings match = record {
    each = λ ring s. let w = Memᴰ.of_map (enter_in p b) rings s in
        subst (λ (r : List Entry). RingMatches P (marked st p) r) w.2 (enter_ring_matches w.0 (match.each w.0 w.1));
    apart = enter_apart p b rings match.apart;
    covered = λ q f. in_rings_enter p b q rings
        ∙ match.covered q (record { below = f.below; flies = ap (λ (n : ℕ). not (eqb n no_number)) (sym (marked_next st p q)) ∙ f.flies });
  }

module _ (P : ℕ) (st : ℕ → PageState) (rings : List (List Entry)) (sound : StateFacts P st) (match : RingsMatch P st rings) (p : ℕ) (f : Flies P st p) (b : List ℕ) where
  -- "all pages of that ring now have bytes" exactly where "its whole ring is then written"
  all_entered_completes : all_entered (enter_in p b (ring_of p rings)) ≡ completes P st p
  unfolding has_bytes
  all_entered_completes =
      same_test (all_entered (enter_in p b ring)) (completes P st p)
      (λ a. completes_of P st sound p f
      (λ q on n. let w = in_ring_entry q ring (cycle q ∙ on) in
      ap (λ (x : ℕ). is_written (st x)) (sym w.2)
      ∙ matches.written w.0 w.1
      ∙ all_entered_at (enter_in p b ring) a w.0 (enter_other p b w.0 ring w.1 (λ e. n (sym w.2 ∙ e)))))
      (λ c. all_entered_of (enter_in p b ring)
      (λ e s. elim (enter_cases p b e ring s) [
        | inl w ↦ ap has_bytes w.0
        | inr w ↦ sym (matches.written e w.1) ∙ completes_at P st sound p f c (entry_page e) (sym (cycle (entry_page e)) ∙ entry_in_ring e ring w.1) w.0
      ]))
    where
      ring : List Entry
      ring = ring_of p rings

      matches : RingMatches P st ring
      matches = ring_of_matches P st rings match p f

      cycle : (q : ℕ) → in_ring q ring ≡ on_cycle P st p q
      cycle q = ring_of_cycle P st rings match sound p f q

  module _ (kept : ℕ → List ℕ) where
    -- ---- some page of the cycle is not written: the ring stays open

    module _ (c : completes P st p ≡ false) where
      stays_open : enter p b kept rings ≡ record { kept = kept; rings = map (enter_in p b) rings }
      stays_open = enter_open p b kept rings match.apart (match.covered p f) (all_entered_completes ∙ c)

      pub write_open_kept : (enter p b kept rings).kept ≡ kept
      write_open_kept = ap (λ (m : Model). m.kept) stays_open

      pub write_open_match : RingsMatch P (after_write P st p) (enter p b kept rings).rings
      write_open_match =
          subst (λ (m : Model). RingsMatch P (after_write P st p) m.rings) (sym stays_open)
          (subst (λ (x : ℕ → PageState). RingsMatch P x (map (enter_in p b) rings)) (sym (fun_ext (after_write_not P st sound p f c)))
          (enter_rings_match P st p b rings match))

      -- the bytes are entered for p, and for the other pages what was
      pub write_open_entered :
          (q : ℕ) (d : List ℕ)
          → IsEntered (enter p b kept rings).rings q d ↔ (((q ≡ p) × (d ≡ b)) ⊎ ((¬ (q ≡ p)) × IsEntered rings q d))
      write_open_entered q d =
          subst (λ (m : Model). IsEntered m.rings q d ↔ (((q ≡ p) × (d ≡ b)) ⊎ ((¬ (q ≡ p)) × IsEntered rings q d))) (sym stays_open) (enter_entered p b rings (match.covered p f) q d)

    -- ---- the whole cycle is written: the ring closes

    module _ (c : completes P st p ≡ true) where
      ring_closes : enter p b kept rings ≡ record { kept = keep (enter_in p b (ring_of p rings)) kept; rings = close_ring p rings }
      ring_closes = enter_closes p b kept rings (match.covered p f) (all_entered_completes ∙ c)

      no_repeats_lem : NoRepeats (pages_of (enter_in p b (ring_of p rings)))
      no_repeats_lem = subst (λ (l : List ℕ). NoRepeats l) (sym (pages_enter p b (ring_of p rings))) (ring_of_matches P st rings match p f).runs.no_repeats_lem

      -- kept for p: the bytes just written
      pub write_done_own : (enter p b kept rings).kept p ≡ b
      write_done_own =
          ap (λ (m : Model). m.kept p) ring_closes
          ∙ keep_entered kept p b (enter_in p b (ring_of p rings)) no_repeats_lem (enter_own p b (ring_of p rings) (ring_of_has P st rings match p f))

      -- kept for the other pages on p's cycle: what is entered
      pub write_done_cycle : (q : ℕ) → ¬ (q ≡ p) → on_cycle P st p q ≡ true → (d : List ℕ) → IsEntered rings q d → (enter p b kept rings).kept q ≡ d
      unfolding entry_page
      write_done_cycle q n on d w =
          ap (λ (m : Model). m.kept q) ring_closes
          ∙ keep_entered kept q d (enter_in p b (ring_of p rings)) no_repeats_lem
          (enter_other p b (Entry.Entered q d) (ring_of p rings)
          (entered_in_ring p q d rings match.apart (match.covered p f) (ring_of_cycle P st rings match sound p f q ∙ on) w) n)

      -- and for every other page what was
      pub write_done_other : (q : ℕ) → on_cycle P st p q ≡ false → (enter p b kept rings).kept q ≡ kept q
      write_done_other q off =
          ap (λ (m : Model). m.kept q) ring_closes
          ∙ keep_other kept q (enter_in p b (ring_of p rings)) (in_ring_enter p b q (ring_of p rings) ∙ ring_of_cycle P st rings match sound p f q ∙ off)

      pub write_done_match : RingsMatch P (after_write P st p) (enter p b kept rings).rings
      unfolding completed committed_page at_rest
      write_done_match =
          subst (λ (m : Model). RingsMatch P (after_write P st p) m.rings) (sym ring_closes)
          (close_match P st rings sound match p f (after_write P st p)
          (λ q on. ap in_flight (after_write_done P st sound p f c q) ∙ rw on (none_rests (committed_page (st q)) refl))
          (λ q off. after_write_done P st sound p f c q ∙ rw off))

      -- what is entered for pages off p's cycle stays
      pub write_done_entered : (q : ℕ) → on_cycle P st p q ≡ false → (d : List ℕ) → IsEntered (enter p b kept rings).rings q d ↔ IsEntered rings q d
      write_done_entered q off d =
          subst (λ (m : Model). IsEntered m.rings q d ↔ IsEntered rings q d) (sym ring_closes) (close_entered P st rings sound match p f q off d)

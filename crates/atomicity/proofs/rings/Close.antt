-- The ring of a page closes as the pages on its cycle leave flight: the other open rings still match the state.
use Rattle.std.specs.Prelude.{ℕ, ◌<◌, ◌≡◌, refl, ◌↔◌, true, false}
use Rattle.std.proofs.Common.{sym, ap, ◌∙◌}
use mathlib.Core.List.Memᴰ
use mathlib.Core.List.{List, [], Memᴰ}
use Rattle.bounded.specs.Choice.{on_test, never}
use Rattle.state.specs.declared.PageState.{PageState}
use Rattle.state.specs.State.{in_flight}
use Rattle.state.specs.StateLaws.{none_rests, StateFacts}
use Rattle.state.specs.Cycle.{on_cycle}
use Rattle.state.specs.Change.{at_rest, withdrawn_page, withdrawn}
use Rattle.state.specs.CycleLaws.{Flies}
use Rattle.atomicity.specs.Model.{Entry, entry_page, in_ring, close_ring}
use Rattle.atomicity.specs.rings.Match.{ring_of, IsEntered, Apart, RingsMatch}
use Rattle.atomicity.proofs.rings.Laws.{entry_in_ring, ring_in_rings, ring_of_page, ring_of_only, close_among, close_keeps, close_clears, close_apart}
use Rattle.atomicity.proofs.rings.Cycle.{ring_same, ring_of_cycle}

module _ (P : ℕ) (st : ℕ → PageState) (rings : List (List Entry)) (sound : StateFacts P st) (match : RingsMatch P st rings) (p : ℕ) (f : Flies P st p) where
  -- the rings that stay open have no page of p's cycle
  close_off_cycle : (ring : List Entry) → Memᴰ ring (close_ring p rings) → (q : ℕ) → in_ring q ring ≡ true → on_cycle P st p q ≡ false
  close_off_cycle ring m q e =
      on_test (on_cycle P st p q)
      (λ on. absurd (never (ring_in_rings q ring (close_ring p rings) m e)
      (close_clears p q rings match.apart (match.covered p f) (ring_of_cycle P st rings match sound p f q ∙ on))))
      (λ off. off)

  -- a ring with a page off p's cycle stays open
  close_keeps_off :
      (ring : List Entry)
      → Memᴰ ring rings
      → (q : ℕ)
      → in_ring q ring ≡ true
      → on_cycle P st p q ≡ false
      → Memᴰ ring (close_ring p rings)
  close_keeps_off ring m q e off =
      close_keeps p ring rings m
      (on_test (in_ring p ring)
      (λ h. absurd (never (ap (in_ring q) (ring_of_only p ring rings match.apart m h) ∙ e) (ring_of_cycle P st rings match sound p f q ∙ off)))
      (λ h. h))

  module _ (st' : ℕ → PageState) (leaves : (q : ℕ) → on_cycle P st p q ≡ true → in_flight (st' q) ≡ false) (stays : (q : ℕ) → on_cycle P st p q ≡ false → st' q ≡ st q) where
    pub close_match : RingsMatch P st' (close_ring p rings)
    close_match = record {
      each = λ ring m. ring_same P st st' ring (λ q e. stays q (close_off_cycle ring m q e)) (match.each ring (close_among p ring rings m));
      apart = close_apart p rings match.apart;
      covered = λ q g. on_test (on_cycle P st p q)
          (λ on. absurd (never g.flies (leaves q on)))
          (λ off. let w = ring_of_page q rings (match.covered q (record { below = g.below; flies = ap in_flight (sym (stays q off)) ∙ g.flies })) in
          ring_in_rings q (ring_of q rings) (close_ring p rings) (close_keeps_off (ring_of q rings) w.0 q w.1 off) w.1);
    }

  -- what is entered for pages off p's cycle stays
  pub close_entered : (q : ℕ) → on_cycle P st p q ≡ false → (d : List ℕ) → IsEntered (close_ring p rings) q d ↔ IsEntered rings q d
  unfolding entry_page
  close_entered q off d = (
    λ w. (w.0, close_among p w.0 rings w.1, w.2),
    λ w. (w.0, close_keeps_off w.0 w.1 q (entry_in_ring (Entry.Entered q d) w.0 w.2) off, w.2),
  )

  -- ---- withdraw

  pub withdraw_match : RingsMatch P (withdrawn P st p) (close_ring p rings)
  unfolding withdrawn withdrawn_page at_rest
  withdraw_match =
      close_match (withdrawn P st p)
      (λ q on. rw on (none_rests (withdrawn_page (st q)) refl))
      (λ q off. rw off)

-- ---- no page in flight, no open ring

pub no_rings_match : (P : ℕ) (st : ℕ → PageState) → ((p : ℕ) → p < P → in_flight (st p) ≡ false) → RingsMatch P st []
no_rings_match P st rests = record {
  each = λ ring m. absurd (Memᴰ.not-nil m);
  apart = Apart.none;
  covered = λ p f. absurd (never f.flies (rests p f.below));
}

-- Under the invariant read of each page, on the state that recover fills, answers 0 and copies the kept contents.
use Rattle.std.specs.Prelude.{ℕ, ◌≤◌, ◌<◌, ◌≡◌, refl, true, length}
use Rattle.std.proofs.Common.{arith, ◌∙◌, subst}
use Rattle.std.proofs.Math.Path.{sym, ap}
use mathlib.Core.List.{List}
use borrow.Author.Tests.{lt-ltb, eq-eqb, ltb-true}
use Rattle.bounded.specs.Choice.{never}
use Rattle.bounded.specs.Limits.{highest_version, Widths}
use Rattle.outcome.specs.OutcomeLaws.{settled_done}
use Rattle.sizes.specs.declared.Layout.{Layout}
use Rattle.sizes.specs.declared.Sizes.{Sizes}
use Rattle.record.specs.Slot.{Slot}
use Rattle.record.specs.Slot.{slot_in, bytes_at}
use Rattle.state.specs.declared.PageState.{PageState}
use Rattle.state.specs.State.{state_at, state_words, state_sound, in_flight}
use Rattle.state.specs.StateLaws.{PageFacts, facts_state_sound, state_at_words}
use Rattle.state.specs.Change.{at_rest}
use Rattle.table.specs.Table.{has_version, used_of}
use Rattle.table.proofs.UsedLaws.{used_most}
use Rattle.table.proofs.TableLaws.{lowest_holds}
use Rattle.rules.specs.Volume.{Volume, volume_fits_in}
use Rattle.rules.specs.Read.{read_slot_in, read_answer_in, read_outcome_in}
use Rattle.protocol.specs.View.{pointing_view, InSlots}
use Rattle.protocol.specs.Shared.{SharedCore}
use Rattle.protocol.proofs.RecoverAnswers.{table_sound_lem, committed_there_lem, found_within_used}
use Rattle.protocol.proofs.WriteSteps.{at_rest_lem}

-- pages at rest are a sound state where each has its committed version at most its used one
at_rest_facts : (P : ℕ) (st : ℕ → PageState) (c u : ℕ) → c ≤ u → u ≤ highest_version → PageFacts P st (at_rest c u)
unfolding at_rest
at_rest_facts P st c u l h =
    record {
      committed_used = l;
      used_highest = h;
      flies_below_used = λ f. absurd (never f (at_rest_lem c u));
      next_below = λ f. absurd (never f (at_rest_lem c u));
      next_flies = λ f. absurd (never f (at_rest_lem c u));
      written_bit = omega arith;
      written_flies = λ e. absurd (omega arith);
    }

all_at_rest_sound :
    (P : ℕ) (st : ℕ → PageState) (c u : ℕ → ℕ)
    → ((p : ℕ) → p < P → (st p ≡ at_rest (c p) (u p)) × (c p ≤ u p) × (u p ≤ highest_version))
    → state_sound P st ≡ true
all_at_rest_sound P st c u h =
    facts_state_sound P st
    (record {
      page = λ p l. let w = h p l in subst (λ (s : PageState). PageFacts P st s) (sym w.0) (at_rest_facts P st (c p) (u p) w.1 w.2);
      apart = λ p q l m f g e. let w = h p l in absurd (never f (ap in_flight w.0 ∙ at_rest_lem (c p) (u p)));
    })

module _ (layout : Layout) (back : (used committed : ℕ) → ℕ) (sizes : Sizes) (v : Volume) {comm : ℕ → ℕ} {kept : ℕ → List ℕ} (committed : ℕ → ℕ)
    (shared : SharedCore (pointing_view back) (InSlots sizes.slots (slot_in layout v.flash.words) (bytes_at sizes.width v.flash.contents)) comm sizes.pages kept)
    (right : (p : ℕ) → p < sizes.pages → committed p ≡ comm p)
    (filled : v.state ≡ state_words sizes.pages (λ p. at_rest (committed p) (used_of sizes.slots (slot_in layout v.flash.words) p))) where
  open shared use {one_record, committed_kept}

  abbrev slots : ℕ → Slot
  slots = slot_in layout v.flash.words

  abbrev bytes : ℕ → List ℕ
  bytes = bytes_at sizes.width v.flash.contents

  -- the state of each page
  pub filled_page : (p : ℕ) → p < sizes.pages → state_at v.state p ≡ at_rest (comm p) (used_of sizes.slots slots p)
  filled_page p h =
      ap (λ (x : List ℕ). state_at x p) filled
      ∙ state_at_words sizes.pages (λ p. at_rest (committed p) (used_of sizes.slots slots p)) p h
      ∙ ap (λ (c : ℕ). at_rest c (used_of sizes.slots slots p)) (right p h)

  filled_committed : (p : ℕ) → p < sizes.pages → (state_at v.state p).committed ≡ comm p
  unfolding at_rest
  filled_committed p h = ap (λ (s : PageState). s.committed) (filled_page p h)

  committed_used : (p : ℕ) → p < sizes.pages → comm p ≤ used_of sizes.slots slots p
  committed_used p h =
      let c = committed_kept p h in
      let l = (found_within_used back sizes.slots slots bytes).version_used c.0 (kept p) c.1 in
      let e = ap (used_of sizes.slots slots) c.2.0 in
      let q = c.2.1 in
      omega arith

  -- not 5
  pub filled_sound : state_sound sizes.pages (state_at v.state) ≡ true
  filled_sound =
      all_at_rest_sound sizes.pages (state_at v.state) comm (used_of sizes.slots slots)
      (λ p h. (filled_page p h, committed_used p h, used_most sizes.pages sizes.slots slots p (table_sound_lem back shared)))

  module _ (widths : Widths) (page : ℕ) (out : List ℕ) (below : page < sizes.pages) (fits : volume_fits_in layout widths sizes v ≡ true) (room : length out ≡ sizes.width) where
    there : has_version sizes.slots slots page (state_at v.state page).committed ≡ true
    there = rw (filled_committed page below) (committed_there_lem back shared page below)

    -- Read answers 0,
    pub read_accepts : read_answer_in layout widths sizes v page out ≡ 0
    unfolding read_answer_in
    read_accepts = rw (read_answer_in, fits, eq-eqb (length out) sizes.width room, table_sound_lem back shared, filled_sound, lt-ltb page sizes.pages below, there)

    -- and the bytes of the slot it reads are the kept contents.
    pub read_kept : bytes (read_slot_in layout sizes.slots v page) ≡ kept page
    unfolding read_slot_in has_version
    read_kept =
        let l = ltb-true (read_slot_in layout sizes.slots v page) sizes.slots there in
        let r = lowest_holds slots sizes.slots page (state_at v.state page).committed l in
        let c = committed_kept page below in
        (one_record r.0 c.0 (bytes (read_slot_in layout sizes.slots v page)) (kept page)
        (read_slot_in layout sizes.slots v page, l, r.1, refl) c.1
        (r.2 ∙ sym c.2.0) (r.3 ∙ filled_committed page below ∙ sym c.2.1)).1

    pub read_outcome_kept : read_outcome_in layout widths sizes v page out ≡ record { answer = 0; second = 0; left = kept page }
    unfolding read_outcome_in
    read_outcome_kept =
        settled_done (read_answer_in layout widths sizes v page out) 0 0 out (bytes (read_slot_in layout sizes.slots v page)) read_accepts
        ∙ ap (λ (b : List ℕ). record { answer = 0; second = 0; left = b }) read_kept

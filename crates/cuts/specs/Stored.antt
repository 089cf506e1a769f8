-- An erase and a write: the program's buffers follow the reference model behind them, and what is found at their cuts is the same.
use Rattle.std.specs.Prelude.{ℕ, ◌≤◌, ◌<◌, ◌≡◌, Bool, cond, ◌&&◌, set, replicate}
use Rattle.std.proofs.Common.{arith, ap₂, ◌∙◌}
use Rattle.std.proofs.Math.Path.{refl, sym, ap, subst}
use mathlib.Core.List.{List, [], ◌∷◌, append-nil, map}
use Rattle.std.proofs.Math.Bool.{true, false}
use Rattle.std.proofs.Math.Dec.{leb, eqb}
use Rattle.std.proofs.Math.ListN.{length-set}
use borrow.Author.Tests.{eq-eqb, ne_eqb, le-leb}
use Rattle.bounded.specs.Limits.{no_number, Widths}
use Rattle.bounded.specs.BelowLaws.{all_cong}
use Rattle.bounded.specs.Choice.{on_eq, on_test}
use Rattle.bounded.specs.Entries.{stored_length}
use Rattle.outcome.specs.Outcome.{Outcome}
use Rattle.outcome.specs.OutcomeLaws.{settled_done, settled_refused}
use Rattle.sizes.specs.declared.Layout.TheVariants.{FiveWords}
use Rattle.sizes.specs.declared.Sizes.{Sizes}
use Rattle.record.specs.Flash.{Flash, Step, apply_all, apply_all_in}
use Rattle.record.specs.FlashLaws.{SizedIn, members_below, blanks_sized, store_sized}
use Rattle.state.specs.declared.PageState.{PageState}
use Rattle.state.specs.State.{state_at, state_words, in_flight}
use Rattle.state.specs.StateLaws.{StateFacts, state_sound_facts, state_at_words, length_state_words}
use Rattle.state.specs.Change.{completes, after_write}
use Rattle.state.specs.CycleLaws.{Flies}
use Rattle.rules.specs.Volume.{Volume}
use Rattle.rules.specs.Write.{write_answer, done_of_write, write_change, write_step, write_outcome}
use Rattle.rules.specs.Erase.{erase_answer, erase_steps}
use Rattle.rules.specs.laws.Volume.{FitsIn}
use Rattle.rules.proofs.laws.Accepted.{WriteTests, write_tests}
use Rattle.rules.proofs.laws.Outcomes.{write_refused, write_done}
use Rattle.atomicity.specs.Family.{Family, back_pointer}
use Rattle.atomicity.specs.Call.{Call, with_flash, perform, planned_stages, flash_stages}
use Rattle.atomicity.specs.Run.{Event, World, done_of, done_in, steps_cut_short, was_done, happens}
use Rattle.atomicity.proofs.steps.Stages.{cut_first}
use Rattle.atomicity.specs.Model.{Told, Model, close_all, enter, accept, learns}
use Rattle.atomicity.specs.Promise.{told_of_crash, told}
use Rattle.everywhere.specs.Cuts.{wiped_state, Recorded, Point, up_to, slot_of, stage_points, points_from, are_reads_kept, comes_back, same_after, cuts_in, answer_by, erase_outcome_by, erasing}
use Rattle.atomicity.proofs.rings.Cycle.{rings_match_cong}
use Rattle.atomicity.proofs.rings.Write.{write_open_match, write_done_match}
use Rattle.ledger.specs.Ledger.{filled, settled_entered, settled_kept}
use Rattle.cutpoint.specs.Judged.{erase_cuts}
use Rattle.recorded.specs.Desk.{Desk, desk, settled_desk, wrote_desk, write_desk, desk_back, write_cuts, erase_desk, cuts_of_erase}
use Rattle.cuts.specs.Follows.{entered_settled, kept_cong, open_entered, open_kept, done_entered, done_kept}
use Rattle.atomicity.proofs.steps.Event.{learns_accepted, learns_refused}
use Rattle.recorded.specs.TrialLaws.{done_list}
use Rattle.cuts.specs.Followed.{Follows, behind}

-- the slots of an erase's steps
slots_of_lem : (slots : List ℕ) → map slot_of (erase_steps slots) ≡ slots
unfolding erase_steps slot_of
slots_of_lem [] = refl
slots_of_lem (k ∷ slots) = ap (λ (l : List ℕ). k ∷ l) (slots_of_lem slots)

-- what is found at points made of slots
at_points : (found : Point → Bool) (point : ℕ → Point) (at : ℕ → Bool) (slots : List ℕ) → ((k : ℕ) → found (point k) ≡ at k) → map found (map point slots) ≡ map at slots
at_points found point at [] e = refl
at_points found point at (k ∷ slots) e = ap₂ {C = List Bool} ◌∷◌ (e k) (at_points found point at slots e)

module _ (widths : Widths) (sizes : Sizes) where
  abbrev pub world : Desk → Bool → World
  world d b = record { volume = d.volume; lost = b }

  -- what comes back is held against the kept contents of the P pages
  back_cong : (F : Family) (v : Volume) (kept kept' : ℕ → List ℕ) → ((p : ℕ) → p < sizes.pages → kept p ≡ kept' p) → comes_back F widths sizes v kept ≡ comes_back F widths sizes v kept'
  unfolding comes_back are_reads_kept
  back_cong F v kept kept' same = ap (λ (b : Bool). eqb (F.recover widths sizes v).answer 0 && b) (all_cong sizes.pages (λ p h. rw (same p h)))

  -- recovery and read do not see which erase it is
  back_either : (trial : Bool) (v : Volume) (kept : ℕ → List ℕ) → comes_back (erasing trial) widths sizes v kept ≡ comes_back back_pointer widths sizes v kept
  unfolding comes_back are_reads_kept
  back_either trial v kept = refl

  module _ (m : Model) (d : Desk) (f : Follows widths sizes m d) where
    abbrev st : ℕ → PageState
    st = state_at d.volume.state

    -- ---- erase

    pub erase_follows : (trial : Bool) (slots : List ℕ) → Follows widths sizes m (erase_desk widths sizes trial d slots)
    unfolding erase_desk erase_outcome_by erase_steps
    erase_follows trial slots =
        on_eq (answer_by trial (erase_answer widths sizes d.volume slots)) 0
        (λ e.
        let flash = apply_all sizes.width d.volume.flash (erase_steps slots) in
        let fits = f.ready.fits in
        let below = members_below sizes.slots slots (done_list trial widths sizes d.volume slots e).in_range_lem in
        left_as flash (ap (λ (o : Outcome Flash). o.left) (settled_done (answer_by trial (erase_answer widths sizes d.volume slots)) 0 0 d.volume.flash flash e))
        (blanks_sized FiveWords sizes.width sizes.slots slots d.volume.flash fits.flash_sized below))
        (λ n. left_as d.volume.flash (ap (λ (o : Outcome Flash). o.left) (settled_refused (answer_by trial (erase_answer widths sizes d.volume slots)) 0 0 d.volume.flash _ n)) f.ready.fits.flash_sized)
      where
        left_as : (flash : Flash) → (erase_outcome_by trial widths sizes d.volume slots).left ≡ flash → SizedIn FiveWords sizes.width sizes.slots flash → Follows widths sizes m (erase_desk widths sizes trial d slots)
        left_as flash e sized =
            subst (λ (x : Flash). Follows widths sizes m (desk (record { flash = x; state = d.volume.state }) d.entered d.kept)) (sym e)
            (record {
              ready = record {
                fits = record { bounds = f.ready.fits.bounds; allowed = f.ready.fits.allowed; flash_sized = sized; state_sized = f.ready.fits.state_sized };
                entered_room = f.ready.entered_room;
                kept_room = f.ready.kept_room;
              };
              matches = f.matches;
              entered_is = f.entered_is;
              kept_is = f.kept_is;
            })

    pub erase_cuts_lem : (trial b : Bool) (slots : List ℕ) → cuts_in (erasing trial) widths sizes (world d b) m (Recorded.Makes (Call.Erase slots)) ≡ cuts_of_erase widths sizes trial d slots
    unfolding cuts_in cuts_of_erase flash_stages perform with_flash planned_stages points_from stage_points erase_cuts same_after happens told told_of_crash learns close_all filled
    erase_cuts_lem trial b slots =
        on_test (eqb (erase_outcome_by trial widths sizes d.volume slots).answer 0)
        (λ y. rw (y, append-nil (stage_points 0 (map slot_of (erase_steps slots))), slots_of_lem slots)
        (at_points _ _ _ slots (λ k. ap (λ (l : List Step). comes_back (erasing trial) widths sizes (record { flash = apply_all_in FiveWords sizes.width d.volume.flash l; state = wiped_state sizes }) m.kept) (cut_first (up_to slots k) (erase_steps slots) []) ∙ back_either trial _ _ ∙ back_cong back_pointer _ m.kept (filled sizes.width d.kept) f.kept_is)))
        (λ n. rw n)

    -- ---- write

    module _ (page slot fill : ℕ) (small : ¬ (fill ≡ no_number)) where
      abbrev bytes : List ℕ
      bytes = replicate sizes.width fill

      abbrev call : Call
      call = Call.Write page slot bytes

      abbrev outcome : Outcome Volume
      outcome = write_outcome widths sizes d.volume page slot bytes

      -- it is accepted, with what it then leaves
      module _ (e : write_answer widths sizes d.volume page slot bytes ≡ 0) where
        tests : WriteTests widths sizes d.volume page slot bytes
        tests = write_tests widths sizes d.volume page slot bytes e

        sound : StateFacts sizes.pages st
        sound = state_sound_facts sizes.pages st tests.sound

        flies : Flies sizes.pages st page
        flies = record { below = tests.page_below; flies = tests.flying }

        abbrev next : ℕ → PageState
        next = after_write sizes.pages st page

        abbrev left : Volume
        left = write_change sizes d.volume page slot bytes

        abbrev model : Model
        model = enter page bytes m.kept m.rings

        same : (q : ℕ) → q < sizes.pages → state_at (state_words sizes.pages next) q ≡ next q
        same q h = state_at_words sizes.pages next q h

        left_fits : FitsIn FiveWords widths sizes left
        unfolding write_change write_step
        left_fits =
            let fits = f.ready.fits in
            record {
              bounds = fits.bounds;
              allowed = fits.allowed;
              flash_sized = store_sized FiveWords sizes.width sizes.slots d.volume.flash fits.flash_sized slot tests.slot_below _ bytes tests.whole;
              state_sized = length_state_words sizes.pages next;
            }

        written : (done : Bool) → completes sizes.pages st page ≡ done → Follows widths sizes model (settled_desk widths sizes done left (set d.entered page fill) d.kept)
        unfolding write_change settled_desk settled_entered settled_kept
        written false c =
            behind widths sizes (desk d.volume (set d.entered page fill) d.kept)
            (record { fits = f.ready.fits; entered_room = subst (λ (n : ℕ). sizes.pages ≤ n) (sym (length-set d.entered page fill)) f.ready.entered_room; kept_room = f.ready.kept_room })
            model left left_fits
            (rings_match_cong sizes.pages next model.rings (write_open_match sizes.pages st m.rings sound f.matches page flies bytes m.kept c) _ same)
            (λ q h y. open_entered sizes.width sizes.pages st m.rings sound f.matches page flies fill small m.kept d.entered d.kept f.ready.entered_room f.ready.kept_room f.entered_is f.kept_is c q h)
            (open_kept sizes.width sizes.pages st m.rings sound f.matches page flies fill small m.kept d.entered d.kept f.ready.entered_room f.ready.kept_room f.entered_is f.kept_is c)
        written true c =
            let room = f.ready.kept_room in
            record {
              ready = record {
                fits = left_fits;
                entered_room = subst (λ (n : ℕ). sizes.pages ≤ n) (sym (stored_length _ (set d.entered page fill) sizes.pages ∙ length-set d.entered page fill)) f.ready.entered_room;
                kept_room = subst (λ (n : ℕ). sizes.pages ≤ n) (sym (stored_length _ d.kept sizes.pages)) room;
              };
              matches = rings_match_cong sizes.pages next model.rings (write_done_match sizes.pages st m.rings sound f.matches page flies bytes m.kept c) _ same;
              entered_is = entered_settled sizes.width sizes.pages _ (set d.entered page fill) (subst (λ (n : ℕ). sizes.pages ≤ n) (sym (length-set d.entered page fill)) f.ready.entered_room) model.rings
                  (rings_match_cong sizes.pages next model.rings (write_done_match sizes.pages st m.rings sound f.matches page flies bytes m.kept c) _ same)
                  (λ q h y. done_entered sizes.width sizes.pages st m.rings sound f.matches page flies fill small m.kept d.entered d.kept f.ready.entered_room room f.entered_is f.kept_is c q h (ap in_flight (sym (same q h)) ∙ y));
              kept_is = kept_cong sizes.width sizes.pages true next _ (set d.entered page fill) d.kept room same model.kept
                  (done_kept sizes.width sizes.pages st m.rings sound f.matches page flies fill small m.kept d.entered d.kept f.ready.entered_room room f.entered_is f.kept_is c);
            }

        done_number : eqb (done_of_write sizes.pages st page) 1 ≡ completes sizes.pages st page
        unfolding done_of_write
        done_number = by (completes sizes.pages st page)
          where
            by : (c : Bool) → eqb (cond c 1 0) 1 ≡ c
            by true = refl
            by false = refl

        -- what the buffers hold then
        wrote : write_desk widths sizes d page slot fill ≡ settled_desk widths sizes (completes sizes.pages st page) left (set d.entered page fill) d.kept
        unfolding write_desk wrote_desk
        wrote = rw (write_done widths sizes d.volume page slot bytes e, done_number)

        pub done_follows : Follows widths sizes model (write_desk widths sizes d page slot fill)
        done_follows = subst (Follows widths sizes model) (sym wrote) (written (completes sizes.pages st page) refl)

      pub write_follows : Follows widths sizes (learns m (Told.Answered call outcome.answer)) (write_desk widths sizes d page slot fill)
      unfolding accept write_desk wrote_desk
      write_follows =
          on_eq (write_answer widths sizes d.volume page slot bytes) 0
          (λ e. subst (λ (x : Model). Follows widths sizes x (write_desk widths sizes d page slot fill)) (sym (learns_accepted m call outcome.answer (ap (λ (o : Outcome Volume). o.answer) (write_done widths sizes d.volume page slot bytes e)))) (done_follows e))
          (λ n.
          let o = write_refused widths sizes d.volume page slot bytes n in
          let a : ¬ (outcome.answer ≡ 0) = λ z. n (sym (ap (λ (o : Outcome Volume). o.answer) o) ∙ z) in
          let stays : write_desk widths sizes d page slot fill ≡ d = rw (ne_eqb outcome.answer 0 a) (ap (λ (o : Outcome Volume). desk o.left d.entered d.kept) o) in
          subst (λ (x : Model). Follows widths sizes x (write_desk widths sizes d page slot fill)) (sym (learns_refused m call outcome.answer a)) (subst (Follows widths sizes m) (sym stays) f))

      pub write_volume : outcome.left ≡ (write_desk widths sizes d page slot fill).volume
      unfolding write_desk wrote_desk settled_desk
      write_volume = by (eqb outcome.answer 0)
        where
          by : (t : Bool) → outcome.left ≡ (cond t (settled_desk widths sizes (eqb outcome.second 1) outcome.left (set d.entered page fill) d.kept) (desk outcome.left d.entered d.kept)).volume
          by true = refl
          by false = refl

      -- its cut finds the flash and the kept contents that it leaves
      stored_same :
          (trial b : Bool) → write_answer widths sizes d.volume page slot bytes ≡ 0 → eqb outcome.answer 0 ≡ true
          → same_after (erasing trial) widths sizes (world d b) m (Event.CrashIn call 0 (up_to (slot ∷ []) slot) (wiped_state sizes)) ≡ desk_back widths sizes (write_desk widths sizes d page slot fill)
      unfolding same_after happens told told_of_crash learns close_all flash_stages perform planned_stages steps_cut_short done_in done_of was_done up_to desk_back write_change write_step filled enter apply_all_in
      stored_same trial b e y =
          let l : leb slot slot ≡ true = le-leb slot slot (omega arith) in
          let v : (write_desk widths sizes d page slot fill).volume ≡ write_change sizes d.volume page slot bytes = sym write_volume ∙ ap (λ (o : Outcome Volume). o.left) (write_done widths sizes d.volume page slot bytes e) in
          rw (y, l, v) (back_either trial _ _ ∙ back_cong back_pointer _ _ _ (done_follows e).kept_is)

      pub write_cuts_lem : (trial b : Bool) → cuts_in (erasing trial) widths sizes (world d b) m (Recorded.Makes call) ≡ write_cuts widths sizes d page slot fill
      unfolding cuts_in write_cuts flash_stages perform planned_stages points_from stage_points slot_of
      write_cuts_lem trial b =
          on_eq (write_answer widths sizes d.volume page slot bytes) 0
          (λ e.
          let y : eqb outcome.answer 0 ≡ true = eq-eqb outcome.answer 0 (ap (λ (o : Outcome Volume). o.answer) (write_done widths sizes d.volume page slot bytes e)) in
          rw y (ap (λ (t : Bool). t ∷ []) (stored_same trial b e y)))
          (λ n.
          let z : eqb outcome.answer 0 ≡ false = ne_eqb outcome.answer 0 (λ a. n (sym (ap (λ (o : Outcome Volume). o.answer) (write_refused widths sizes d.volume page slot bytes n)) ∙ a)) in
          rw z)

-- A write is refused by 16 only where an exposed record is neither in flight nor at its page's used version: every other is the record planned for its page.
use Rattle.std.specs.Prelude.{ℕ, ◌<◌, ◌≡◌, refl, ◌⊎◌, ◌↔◌, Bool, true, false, not, ◌&&◌, length, get_or}
use Rattle.std.proofs.Common.{arith, ◌∙◌, inl, inr}
use Rattle.std.proofs.Math.Path.{sym, ap, subst}
use Rattle.std.proofs.Math.Logic.{⊎_elim}
use mathlib.Core.List.{List, map, Memᴰ}
use Rattle.std.proofs.lemmas.Bool.{false≢true}
use Rattle.std.proofs.Math.Dec.{ltb, eqb}
use borrow.Author.Tests.{not-false}
use Rattle.bounded.specs.Limits.{Widths}
use Rattle.bounded.specs.Members.{listed?, entry_member}
use Rattle.bounded.specs.Choice.{on_test, never, both_left, both_right, conjoined, equal_test}
use Rattle.outcome.specs.Outcome.{◌⇒◌otherwise◌, settled}
use Rattle.sizes.specs.declared.Layout.TheVariants.{FourWords}
use Rattle.sizes.specs.declared.Sizes.{Sizes}
use Rattle.sizes.specs.Sizes.{list_ok}
use Rattle.sizes.specs.Lists.{list_facts}
use Rattle.record.specs.declared.Record.{Record}
use Rattle.record.specs.Slot.{Slot}
use Rattle.std.specs.Prelude.{None, Some}
use Rattle.record.specs.Slot.{slot_in, bytes_at, is_blank, holds}
use Rattle.record.specs.SlotLaws.{holds_exactly}
use Rattle.record.specs.Flash.{Flash, Step, apply_all_in}
use Rattle.record.specs.FlashLaws.{SizedIn, members_below, blanks_listed, blanks_unlisted}
use Rattle.state.specs.declared.PageState.{PageState}
use Rattle.state.specs.State.{state_at, state_sound, in_flight, is_written}
use Rattle.table.specs.Table.{table_sound}
use Rattle.table.proofs.HighestSlot.{page_below}
use Rattle.rules.specs.Volume.{Volume, volume_fits_in}
use Rattle.rules.proofs.laws.Volume.{fits_in_test}
use Rattle.rules.proofs.laws.SimpleAccepted.{simple_erase_tests}
use Rattle.rules.specs.Permission.{is_exposed, is_current}
use Rattle.rules.specs.Simple.{simple_may_erase, would_bury}
use Rattle.rules.specs.Erase.{erase_steps}
use Rattle.rules.specs.SimpleCalls.{simple_write_answer, simple_erase_answer, simple_erase_outcome}
use Rattle.rules.proofs.laws.Permission.{exposed_spare_exactly}
use Rattle.rules.proofs.laws.Simple.{simple_may_erase_exactly, simple_may_erase_all_lem, buried_exactly}
use Rattle.protocol.specs.View.{pointing_view}
use Rattle.protocol.proofs.Stored.{plan_page, plan_version, plan_next, plan_next_version}
use Rattle.protocol.specs.Shared.{plan}
use Rattle.protocol.proofs.RecoverAnswers.{table_sound_lem}
use Rattle.atomicity.specs.Family.{simple}
use Rattle.atomicity.specs.Call.{Call, with_flash, perform}
use Rattle.atomicity.specs.Run.{Event, started, after}
use Rattle.atomicity.specs.Model.{Model, fresh_model, accept}
use Rattle.atomicity.specs.Promise.{Premises, model_after}
use Rattle.atomicity.specs.Companions.{StateKnown}
use Rattle.atomicity.specs.Burial.{SpareAt, ListsSpare, UnburiedAt, Unburied}
use Rattle.atomicity.proofs.Simple.{simple_theory}
use Rattle.atomicity.proofs.steps.Invariant.{Live, Known, Holding, known, unknown}
use Rattle.atomicity.proofs.steps.Stages.{answer_is}
use Rattle.atomicity.proofs.steps.Calls.{accepted}
use Rattle.atomicity.proofs.theorems.Promise.{reached}

-- ---- what 16 says

-- conditions in a row, the last of which refuses by 16
sixteen :
    (a b c d e f g h : Bool)
    → (a ⇒ 1 otherwise b ⇒ 2 otherwise c ⇒ 5 otherwise d ⇒ 6 otherwise e ⇒ 9 otherwise f ⇒ 10 otherwise g ⇒ 11 otherwise h ⇒ 16 otherwise 0) ≡ 16
    → (a ≡ false) × (b ≡ false) × (c ≡ false) × (d ≡ false) × (h ≡ true) × (e ≡ false) × (f ≡ false) × (g ≡ false)
sixteen true b c d e f g h x = absurd (omega arith)
sixteen false true c d e f g h x = absurd (omega arith)
sixteen false false true d e f g h x = absurd (omega arith)
sixteen false false false true e f g h x = absurd (omega arith)
sixteen false false false false true f g h x = absurd (omega arith)
sixteen false false false false false true g h x = absurd (omega arith)
sixteen false false false false false false true h x = absurd (omega arith)
sixteen false false false false false false false true x = (refl, refl, refl, refl, refl, refl, refl, refl)
sixteen false false false false false false false false x = absurd (omega arith)

module _ (widths : Widths) (sizes : Sizes) (v : Volume) (page slot : ℕ) (bytes : List ℕ) (s : simple_write_answer widths sizes v page slot bytes ≡ 16) where
  abbrev t : ℕ → Slot
  t = slot_in FourWords v.flash.words

  told :
      (not (volume_fits_in FourWords widths sizes v && eqb (length bytes) sizes.width) ≡ false)
      × (not (table_sound sizes.pages sizes.slots t) ≡ false)
      × (not (state_sound sizes.pages (state_at v.state)) ≡ false)
      × (not (ltb page sizes.pages && ltb slot sizes.slots) ≡ false)
      × (would_bury sizes.slots t (state_at v.state) page ≡ true)
      × (not (in_flight (state_at v.state page)) ≡ false)
      × (is_written (state_at v.state page) ≡ false)
      × (not (is_blank (t slot)) ≡ false)
  unfolding simple_write_answer
  told =
      sixteen _ _ _ _ (not (in_flight (state_at v.state page))) (is_written (state_at v.state page)) (not (is_blank (t slot))) _ s

off : (b : Bool) → ¬ (b ≡ true) → b ≡ false
off true n = absurd (n refl)
off false n = refl

current_exactly : (st : ℕ → PageState) (r : Record) → (is_current st r ≡ true) ↔ ((in_flight (st r.p) ≡ true) × (r.v ≡ (st r.p).used))
unfolding is_current
current_exactly st r = conjoined (in_flight (st r.p)) (eqb r.v (st r.p).used) (λ e. e, λ e. e) (equal_test r.v (st r.p).used)

-- ---- an exposed record in flight at used is the planned one, and is not buried

module _ (sizes : Sizes) (f : Flash) (st : ℕ → PageState) (m : Model) (l : Live simple_theory sizes f st m) where
  abbrev S : ℕ
  S = sizes.slots

  abbrev slots : ℕ → Slot
  slots = slot_in FourWords f.words

  abbrev planned : ℕ → Record
  planned q = plan (pointing_view (λ u c. 0)) st q

  link_current : (k : ℕ) (J : Record) → k < S → slots k ≡ Some J → in_flight (st J.p) ≡ true → J.v ≡ (st J.p).used → J.nv ≡ (st J.np).used
  unfolding simple_theory
  link_current k J h e flies u =
      let below = page_below sizes.pages S slots k J (table_sound_lem (λ u c. 0) l.core.shared) h e in
      on_test (is_written (st J.p))
      (λ w. let x = l.live.written_stored J.p below flies w in
      let here = x.1 in
      let same : k ≡ here.0 =
      l.apart k here.0 J (planned J.p) h here.1 e here.2 (sym (plan_page (pointing_view (λ u c. 0)) st J.p)) (u ∙ sym (plan_version (pointing_view (λ u c. 0)) st J.p)) in
      let is : Some J ≡ Some (planned J.p) = sym e ∙ ap slots same ∙ here.2 in
      let is_plan : J ≡ planned J.p = cc in
      let a = ap (λ (r : Record). r.nv) is_plan ∙ plan_next_version (pointing_view (λ u c. 0)) st J.p in
      let b = ap (λ (r : Record). r.np) is_plan ∙ plan_next (pointing_view (λ u c. 0)) st J.p in
      a ∙ ap (λ (q : ℕ). (st q).used) (sym b))
      (λ w. absurd (l.live.unwritten_absent J.p below flies w J (bytes_at sizes.width f.contents k) (k, h, e, refl) (refl, u)))

  unburied : ((k : ℕ) → k < S → ¬ (holds (λ r. is_exposed st r && not (is_current st r)) (slots k) ≡ true)) → (p : ℕ) → ¬ (would_bury S slots st p ≡ true)
  unburied none p b =
      let w = (buried_exactly S slots st p).0 b in
      by w.0 w.1 w.2 w.3 w.4.0 w.4.1
    where
      at_used : (k : ℕ) (J : Record) → k < S → slots k ≡ Some J → (st J.p).committed < J.v → (in_flight (st J.p) ≡ true) × (J.v ≡ (st J.p).used)
      at_used k J h e x =
          on_test (is_exposed st J && not (is_current st J))
          (λ y. absurd (none k h ((holds_exactly (λ r. is_exposed st r && not (is_current st r)) (slots k)).1 (J, e, y))))
          (λ y. current_of J x y)
        where
          current_of : (J : Record) → (st J.p).committed < J.v → (is_exposed st J && not (is_current st J)) ≡ false → (in_flight (st J.p) ≡ true) × (J.v ≡ (st J.p).used)
          current_of J x y =
              on_test (is_current st J)
              (λ z. (current_exactly st J).0 z)
              (λ z. absurd (never ((exposed_spare_exactly st J).1 (x, λ c. never ((current_exactly st J).1 c) z)) y))

      by : (k : ℕ) (J : Record) → k < S → slots k ≡ Some J → (st J.p).committed < J.v → ((J.p ≡ p) × (J.v < (st p).used)) ⊎ ((J.np ≡ p) × (J.nv < (st p).used)) → ⊥
      by k J h e x (inl y) = let c = (at_used k J h e x).1 in let q = ap (λ (n : ℕ). (st n).used) y.0 in let z = y.1 in omega arith
      by k J h e x (inr y) =
          let c = at_used k J h e x in
          let d = link_current k J h e c.0 c.1 in
          let q = ap (λ (n : ℕ). (st n).used) y.0 in
          let z = y.1 in
          omega arith

-- ---- after an erase of every such record

spared :
    (sizes : Sizes) (v : Volume) (slots : List ℕ)
    → SizedIn FourWords sizes.width sizes.slots v.flash
    → ((k : ℕ) → Memᴰ k slots → k < sizes.slots)
    → ((k : ℕ) → k < sizes.slots → SpareAt v k → (i : ℕ) × (i < length slots) × (get_or slots i 0 ≡ k))
    → (k : ℕ)
    → k < sizes.slots
    → ¬ (holds (λ r. is_exposed (state_at v.state) r && not (is_current (state_at v.state) r)) (slot_in FourWords (apply_all_in FourWords sizes.width v.flash (map Step.Blank slots)).words k) ≡ true)
unfolding holds
spared sizes v slots size inside lists k h e =
    ⊎_elim
    (λ m. false≢true (subst (λ (s : Slot). holds spare s ≡ true) (blanks_listed FourWords sizes.width sizes.slots slots v.flash k size inside m).slot_blank e))
    (λ n. let s = blanks_unlisted FourWords sizes.width sizes.slots slots v.flash k size inside n in
    let w = lists k h (subst (λ (x : Slot). holds spare x ≡ true) s.same_slot e) in
    n (entry_member slots w.0 k w.1 w.2))
    (listed? k slots)
  where
    spare : Record → Bool
    spare r = is_exposed (state_at v.state) r && not (is_current (state_at v.state) r)

module _ (widths : Widths) (sizes : Sizes) (v : Volume) where
  erased_is : (slots : List ℕ) → simple_erase_answer widths sizes v slots ≡ 0 → (perform simple widths sizes v (Call.Erase slots)).left ≡ record { flash = apply_all_in FourWords sizes.width v.flash (map Step.Blank slots); state = v.state }
  unfolding perform with_flash simple_erase_outcome settled erase_steps
  erased_is slots e = rw e

  -- the invariant holds then
  erased_known : (m : Model) → Known simple_theory widths sizes v m → (slots : List ℕ) → simple_erase_answer widths sizes v slots ≡ 0 → Known simple_theory widths sizes (record { flash = apply_all_in FourWords sizes.width v.flash (map Step.Blank slots); state = v.state }) m
  unfolding simple_theory answer_is accept
  erased_known m k slots e = subst (λ (x : Volume). Known simple_theory widths sizes x m) (erased_is slots e) (accepted simple_theory widths sizes v m k (Call.Erase slots) e)

  in_range_lem : (slots : List ℕ) → simple_erase_answer widths sizes v slots ≡ 0 → (k : ℕ) → Memᴰ k slots → k < sizes.slots
  in_range_lem slots e = members_below sizes.slots slots (list_facts sizes.slots slots (simple_erase_tests widths sizes v slots e).listed).in_range_lem

  erased_unburied :
      (m : Model) → Known simple_theory widths sizes v m → (slots : List ℕ)
      → ListsSpare sizes v slots
      → simple_erase_answer widths sizes v slots ≡ 0
      → (page slot : ℕ) (bytes : List ℕ)
      → ¬ (simple_write_answer widths sizes (perform simple widths sizes v (Call.Erase slots)).left page slot bytes ≡ 16)
  unfolding simple_theory
  erased_unburied m k slots lists e page slot bytes s =
      let size = k.fits.flash_sized in
      let f = apply_all_in FourWords sizes.width v.flash (map Step.Blank slots) in
      let s2 = subst (λ (x : Volume). simple_write_answer widths sizes x page slot bytes ≡ 16) (erased_is slots e) s in
      unburied sizes f (state_at v.state) m (erased_known m k slots e).live
      (spared sizes v slots size (in_range_lem slots e) lists) page
      (told widths sizes (record { flash = f; state = v.state }) page slot bytes s2).4

  -- a blank slot stays blank
  still_blank : (m : Model) → Known simple_theory widths sizes v m → (slots : List ℕ) → simple_erase_answer widths sizes v slots ≡ 0 → (slot : ℕ) → is_blank (slot_in FourWords v.flash.words slot) ≡ true → is_blank (slot_in FourWords (apply_all_in FourWords sizes.width v.flash (map Step.Blank slots)).words slot) ≡ true
  unfolding simple_theory is_blank
  still_blank m k slots e slot b =
      let size = k.fits.flash_sized in
      ⊎_elim
      (λ n. ap is_blank (blanks_listed FourWords sizes.width sizes.slots slots v.flash slot size (in_range_lem slots e) n).slot_blank)
      (λ n. ap is_blank (blanks_unlisted FourWords sizes.width sizes.slots slots v.flash slot size (in_range_lem slots e) n).same_slot ∙ b)
      (listed? slot slots)

  -- the write that was refused by 16 is then accepted
  done_after :
      (m : Model) → Known simple_theory widths sizes v m → (slots : List ℕ)
      → ListsSpare sizes v slots
      → simple_erase_answer widths sizes v slots ≡ 0
      → (page slot : ℕ) (bytes : List ℕ)
      → simple_write_answer widths sizes v page slot bytes ≡ 16
      → simple_write_answer widths sizes (perform simple widths sizes v (Call.Erase slots)).left page slot bytes ≡ 0
  unfolding simple_theory simple_write_answer
  done_after m k slots lists e page slot bytes s =
      let w = told widths sizes v page slot bytes s in
      let f = apply_all_in FourWords sizes.width v.flash (map Step.Blank slots) in
      let size = k.fits.flash_sized in
      let then = erased_known m k slots e in
      let live = then.live in
      let fits = fits_in_test FourWords widths sizes (record { flash = f; state = v.state }) then.fits in
      let long = both_right (volume_fits_in FourWords widths sizes v) (eqb (length bytes) sizes.width) (not-false (volume_fits_in FourWords widths sizes v && eqb (length bytes) sizes.width) w.0) in
      let sound = table_sound_lem (λ u c. 0) live.core.shared in
      let state = not-false (state_sound sizes.pages (state_at v.state)) w.2 in
      let range = not-false (ltb page sizes.pages && ltb slot sizes.slots) w.3 in
      let flies = not-false (in_flight (state_at v.state page)) w.5 in
      let blank = still_blank m k slots e slot (not-false (is_blank (slot_in FourWords v.flash.words slot)) w.7) in
      let none = off (would_bury sizes.slots (slot_in FourWords f.words) (state_at v.state) page) (unburied sizes f (state_at v.state) m live (spared sizes v slots size (in_range_lem slots e) lists) page) in
      ap (λ (x : Volume). simple_write_answer widths sizes x page slot bytes) (erased_is slots e)
      ∙ rw (fits, long, sound, state, range, flies, w.6, blank, none)

  -- a slot of such a record may be erased
  spare_erasable : (k : ℕ) → SpareAt v k → simple_may_erase (slot_in FourWords v.flash.words) (state_at v.state) k ≡ true
  spare_erasable k e =
      let w = (holds_exactly (λ r. is_exposed (state_at v.state) r && not (is_current (state_at v.state) r)) (slot_in FourWords v.flash.words k)).0 e in
      (simple_may_erase_exactly (slot_in FourWords v.flash.words) (state_at v.state) k).1 (w.0, w.1, inr ((exposed_spare_exactly (state_at v.state) w.0).0 w.2))

  accepts :
      (page slot : ℕ) (bytes slots : List ℕ)
      → simple_write_answer widths sizes v page slot bytes ≡ 16
      → list_ok sizes.slots slots ≡ true
      → ((i : ℕ) → i < length slots → SpareAt v (get_or slots i 0))
      → simple_erase_answer widths sizes v slots ≡ 0
  unfolding simple_erase_answer
  accepts page slot bytes slots s ok each =
      let w = told widths sizes v page slot bytes s in
      let fits = both_left (volume_fits_in FourWords widths sizes v) (eqb (length bytes) sizes.width) (not-false (volume_fits_in FourWords widths sizes v && eqb (length bytes) sizes.width) w.0) in
      let all = (simple_may_erase_all_lem (slot_in FourWords v.flash.words) (state_at v.state) slots).1 (λ i h. spare_erasable (get_or slots i 0) (each i h)) in
      let sound = not-false (table_sound sizes.pages sizes.slots (slot_in FourWords v.flash.words)) w.1 in
      let state = not-false (state_sound sizes.pages (state_at v.state)) w.2 in
      rw (fits, sound, state, ok, all)

-- so it is of a volume whose state is known
unburied_at : (widths : Widths) (sizes : Sizes) (v : Volume) (m : Model) → Known simple_theory widths sizes v m → UnburiedAt widths sizes v
unburied_at widths sizes v m k =
    record {
      where_none = λ none page slot bytes s. unburied sizes v.flash (state_at v.state) m k.live none page (told widths sizes v page slot bytes s).4;
      after_erase = erased_unburied widths sizes v m k;
      then_done = done_after widths sizes v m k;
    }

pub unburied_again : Unburied
unburied_again =
    record {
      reached = λ widths sizes v events p found.
          unburied_at widths sizes (after simple widths sizes (started simple widths sizes v) events).volume
          (model_after simple widths sizes (started simple widths sizes v) (fresh_model sizes.width) events)
          (known_live widths sizes v events p found);
      accepted = accepts;
    }
  where
    known_live : (widths : Widths) (sizes : Sizes) (v : Volume) (events : List Event) → Premises simple widths sizes v events → StateKnown simple widths sizes v events → Known simple_theory widths sizes (after simple widths sizes (started simple widths sizes v) events).volume (model_after simple widths sizes (started simple widths sizes v) (fresh_model sizes.width) events)
    known_live widths sizes v events p found = by (reached simple_theory widths sizes v events p)
      where
        by : Holding simple_theory widths sizes (after simple widths sizes (started simple widths sizes v) events) (model_after simple widths sizes (started simple widths sizes v) (fresh_model sizes.width) events) → Known simple_theory widths sizes (after simple widths sizes (started simple widths sizes v) events).volume (model_after simple widths sizes (started simple widths sizes v) (fresh_model sizes.width) events)
        by (known f fits live) = record { fits = fits; live = live }
        by (unknown lost fits l) = absurd (never lost found)

-- An accepted sweep: each of its three erasures is one that erase accepts on what those before it left, and straight after them no slot may be erased.
use Prim.Native.Nat.{ℕ, ◌<◌}
use native.Mathlib.Omega.{arith}
use Rattle.std.proofs.Math.Path.{◌≡◌, refl, sym, ap, subst}
use Rattle.std.proofs.Common.{◌∙◌, eq-eqb}
use Rattle.std.specs.Prelude.{◌⊎◌, Bool, ◌&&◌, get_or}
use Rattle.std.proofs.Math.Logic.{inl, inr, ⊎_elim}
use mathlib.Core.List.{List, [], ◌∷◌, flatten, Memᴰ}
use Rattle.std.proofs.Math.Bool.{true, false, not}
use Rattle.bounded.specs.Limits.{Widths}
use Rattle.bounded.specs.Choice.{on_lt, on_test, same_test, never, both, both_right, either_right}
use Rattle.bounded.specs.Below.{some_below, first_below, list_below}
use Rattle.bounded.specs.BelowLaws.{some_of, some_none, first_found, first_passes, first_none_before}
use Rattle.bounded.specs.Members.{entry_member, list_members}
use Rattle.outcome.specs.Outcome.{Outcome}
use Rattle.outcome.specs.OutcomeLaws.{settled_done}
use Rattle.sizes.specs.declared.Layout.TheVariants.{FiveWords}
use Rattle.sizes.specs.declared.Sizes.{Sizes}
use Rattle.sizes.specs.Sizes.{list_ok, listed}
use Rattle.sizes.specs.Lists.{list_test, passing_listed, unlisted_fails}
use Rattle.record.specs.declared.Record.{Record}
use Rattle.record.specs.Slot.{Slot}
use Rattle.std.specs.Prelude.{Some}
use Rattle.record.specs.Slot.{holds, slot_at}
use Rattle.record.specs.SlotLaws.{Straddles, holds_exactly, holds_one}
use Rattle.record.specs.Flash.{Flash, apply_all_in, apply_all}
use Rattle.record.specs.FlashLaws.{SizedIn, SameSlot, apply_append, blanks_sized, blanks_listed, blanks_unlisted}
use Rattle.state.specs.declared.PageState.{PageState}
use Rattle.state.specs.State.{state_at, state_sound}
use Rattle.table.specs.Table.{table_sound}
use Rattle.table.proofs.TableLaws.{blank_holds, holds_of, sound_at}
use Rattle.twins.specs.Twins.{twins}
use Rattle.twins.proofs.TwinsLaws.{twins_exactly, twins_hold, twins_sym, twins_trans}
use Rattle.rules.specs.Volume.{Volume, volume_fits}
use Rattle.rules.specs.Permission.{is_obsolete, is_exposed, is_current, is_needed, may_erase_record, may_erase, may_erase_from, may_erase_all, may_erase_alone, scene, scene_of}
use Rattle.rules.specs.Erase.{erase_steps, erase_answer}
use Rattle.rules.specs.Suggest.{suggestible, suggest_answer}
use Rattle.upkeep.specs.Sweep.{is_spare_exposed, is_obsolete_at, is_erasable_obsolete, is_higher_twin, swept_exposed, without_exposed, swept_obsolete, without_obsolete, swept_twins, sweep_stages, sweep_steps, sweep_answer, sweep_outcome}
use Rattle.upkeep.specs.Swept.{NoneOrErasable, SweepErases, SweptBare}
use Rattle.rules.specs.laws.Volume.{Fits}
use Rattle.rules.proofs.laws.Volume.{bytes_whole, fits_facts, fits_test}
use Rattle.rules.specs.laws.Permission.{Exposed, ExposedSpare, Needed, Erasable}
use Rattle.rules.proofs.laws.Permission.{obsolete_exactly, exposed_spare_exactly, needed_exactly, may_erase_exactly, may_erase_from_lem, may_erase_all_lem}
use Rattle.rules.specs.laws.Chains.{judged_in, Judged}
use Rattle.rules.proofs.laws.Chains.{judged_passed}
use Rattle.upkeep.proofs.laws.Clean.{sound_slots}

-- ---- the slots that pass, blanked

module _ (w S : ℕ) (f : Flash) (size : SizedIn FiveWords w S f) (q : ℕ → Bool) where
  abbrev pub without : Flash
  without = apply_all w f (erase_steps (list_below S q))

  inside : (k : ℕ) → Memᴰ k (list_below S q) → k < S
  inside k m = ((list_members q S k).0 m).0

  pub without_sized : SizedIn FiveWords w S without
  unfolding erase_steps
  without_sized = blanks_sized FiveWords w S (list_below S q) f size inside

  -- a slot that does not pass stays
  pub without_same : (k : ℕ) → q k ≡ false → SameSlot FiveWords w f without k
  unfolding erase_steps
  without_same k e = blanks_unlisted FiveWords w S (list_below S q) f k size inside (λ m. never ((list_members q S k).0 m).1 e)

  -- and one that holds a record then does not, and held it
  pub without_held : (k : ℕ) (r : Record) → k < S → slot_at without.words k ≡ Some r → (q k ≡ false) × (slot_at f.words k ≡ Some r)
  unfolding erase_steps
  without_held k r h e =
      on_test (q k)
      (λ y. absurd (blank_holds (blanks_listed FiveWords w S (list_below S q) f k size inside ((list_members q S k).1 (h, y))).slot_blank e))
      (λ n. (n, sym (without_same k n).same_slot ∙ e))

  pub without_sound : (P : ℕ) → table_sound P S (slot_at f.words) ≡ true → table_sound P S (slot_at without.words) ≡ true
  without_sound P t = sound_slots P S (slot_at without.words) (λ k r h e. sound_at (slot_at f.words) P S k t h (without_held k r h e).1)

-- ---- such a list is none, or erase accepts it where each may be erased

module _ (widths : Widths) (sizes : Sizes) (v : Volume) (fits : Fits widths sizes v)
    (table : table_sound sizes.pages sizes.slots (slot_at v.flash.words) ≡ true) (sound : state_sound sizes.pages (state_at v.state) ≡ true) (q : ℕ → Bool) where
  passing_erasable :
      ((k : ℕ) → k < sizes.slots → q k ≡ true → may_erase_from (scene_of sizes v) (listed (list_below sizes.slots q)) k ≡ true)
      → NoneOrErasable widths sizes v v.flash (list_below sizes.slots q)
  unfolding erase_answer
  passing_erasable may = by (list_below sizes.slots q) refl
    where
      by : (l : List ℕ) → list_below sizes.slots q ≡ l → NoneOrErasable widths sizes v v.flash (list_below sizes.slots q)
      by [] e = inl e
      by (x ∷ l) e =
          let ok : list_ok sizes.slots (list_below sizes.slots q) ≡ true =
          list_test sizes.slots (list_below sizes.slots q) (passing_listed sizes.slots q (λ none. let z : ◌≡◌ {A = ℕ} 0 1 = ap (λ (l : List ℕ). some_length l) (sym none ∙ e) in omega arith)) in
          let all : may_erase_all (scene_of sizes v) (list_below sizes.slots q) ≡ true =
          (may_erase_all_lem (scene_of sizes v) (list_below sizes.slots q)).1
          (λ i h. let m = (list_members q sizes.slots (get_or (list_below sizes.slots q) i 0)).0 (entry_member (list_below sizes.slots q) i (get_or (list_below sizes.slots q) i 0) h refl) in may _ m.0 m.1) in
          inr (rw (erase_answer, fits_test widths sizes v fits, table, sound, ok, all))
        where
          some_length : List ℕ → ℕ
          some_length [] = 0
          some_length (x ∷ l) = 1

-- ---- what each erasure takes may be erased

module _ (S : ℕ) (t : ℕ → Slot) (st : ℕ → PageState) (twin : ℕ → ℕ → Bool) (k : ℕ) where
  pub spare_may : is_spare_exposed t st k ≡ true → may_erase (scene S t st twin) k ≡ true
  unfolding is_spare_exposed may_erase may_erase_record
  spare_may e =
      let h = (holds_exactly (λ r. is_exposed st r && not (is_current st r)) (t k)).0 e in
      (holds_exactly (may_erase_record (scene S t st twin)) (t k)).1 (h.0, h.1, either_right (is_obsolete st h.0 && not (is_needed (scene S t st twin) h.0)) h.2)

  module _ {r : Record} (e : t k ≡ Some r) where
    pub spare_exposed : ExposedSpare st r → is_spare_exposed t st k ≡ true
    unfolding is_spare_exposed
    spare_exposed x = holds_of (λ r. is_exposed st r && not (is_current st r)) e ((exposed_spare_exactly st r).1 x)

    pub obsolete_at_lem : is_obsolete st r ≡ true → is_obsolete_at t st k ≡ true
    unfolding is_obsolete_at
    obsolete_at_lem o = holds_of (is_obsolete st) e o

    -- an obsolete record that may not be erased is needed
    pub obsolete_needed : is_obsolete st r ≡ true → may_erase (scene S t st twin) k ≡ false → Needed S t st r
    obsolete_needed o n =
        on_test (is_needed (scene S t st twin) r)
        (λ y. (needed_exactly S t st twin r).0 y)
        (λ z. absurd (never ((may_erase_exactly S t st twin k).1 (r, e, inl ((obsolete_exactly st r).0 o, λ x. never ((needed_exactly S t st twin r).1 x) z))) n))

module _ (w S : ℕ) (f : Flash) (st : ℕ → PageState) where
  twin_obsolete : (j k : ℕ) → is_obsolete_at (slot_at f.words) st k ≡ true → twins w f j k ≡ true → is_obsolete_at (slot_at f.words) st j ≡ true
  unfolding is_obsolete_at
  twin_obsolete j k o e = let h = twins_hold w f j k e in subst (λ (s : Slot). holds (is_obsolete st) s ≡ true) (h.2 ∙ sym h.1) o

  -- An obsolete record's twins are obsolete: with all of these listed, the old rule judges it.
  pub erasable_obsolete : (k : ℕ) → is_erasable_obsolete (scene S (slot_at f.words) st (twins w f)) k ≡ (is_obsolete_at (slot_at f.words) st k && may_erase (scene S (slot_at f.words) st (twins w f)) k)
  unfolding is_erasable_obsolete
  erasable_obsolete k =
      on_test (is_obsolete_at (slot_at f.words) st k)
      (λ o. rw o (same_test (may_erase_from (scene S (slot_at f.words) st (twins w f)) (is_obsolete_at (slot_at f.words) st) k) (may_erase (scene S (slot_at f.words) st (twins w f)) k)
      (λ e. ⊎_elim
      (λ x. absurd (never (twin_obsolete x.0 k o x.2) x.3))
      (λ y. y)
      ((may_erase_from_lem (scene S (slot_at f.words) st (twins w f)) (is_obsolete_at (slot_at f.words) st) k).0 e))
      (λ e. (may_erase_from_lem (scene S (slot_at f.words) st (twins w f)) (is_obsolete_at (slot_at f.words) st) k).1 (inr e))))
      (λ n. rw n)

  -- An exposed record is not erased with these.
  pub exposed_stays : (k : ℕ) {r : Record} → slot_at f.words k ≡ Some r → Exposed st r → is_erasable_obsolete (scene S (slot_at f.words) st (twins w f)) k ≡ false
  unfolding is_erasable_obsolete is_obsolete_at
  exposed_stays k {r} e x =
      on_test (holds (is_obsolete st) (slot_at f.words k))
      (λ o. let h = (holds_exactly (is_obsolete st) (slot_at f.words k)).0 o in
      absurd (let l = (obsolete_exactly st h.0).0 h.2 in let s = holds_one h.1 e in
      let z = subst (λ (y : Record). y.v < (st y.p).committed) s l in omega arith))
      (λ n. rw n)

  -- The lowest of twins is no higher one.
  pub lowest_twin : (k : ℕ) → is_higher_twin (twins w f) k ≡ true → (j : ℕ) × (j < k) × (twins w f j k ≡ true) × (is_higher_twin (twins w f) j ≡ false)
  unfolding is_higher_twin
  lowest_twin k e =
      let l = first_found (λ j. twins w f j k) k e in
      let first = first_below k (λ j. twins w f j k) in (
        first,
        l,
        first_passes (λ j. twins w f j k) k l,
        some_none (λ i. twins w f i first) first
            (λ i h. on_test (twins w f i first)
            (λ y. absurd (never (twins_trans w f i first k y (first_passes (λ j. twins w f j k) k l)) (first_none_before (λ j. twins w f j k) k i h)))
            (λ n. n)),
      )

-- ---- the three

module _ (widths : Widths) (sizes : Sizes) (v : Volume) (accepted : sweep_answer widths sizes v ≡ 0) where
  abbrev S : ℕ
  S = sizes.slots

  abbrev w : ℕ
  w = sizes.width

  abbrev st : ℕ → PageState
  st = state_at v.state

  tests : Judged FiveWords (volume_fits widths sizes v) sizes.pages S v.flash.words v.state
  unfolding sweep_answer judged_in
  tests = judged_passed FiveWords (volume_fits widths sizes v) sizes.pages S v.flash.words v.state accepted

  pub sweep_fits : Fits widths sizes v
  sweep_fits = fits_facts widths sizes v tests.fitting

  pub sweep_sound : state_sound sizes.pages st ≡ true
  sweep_sound = tests.sound

  size0 : SizedIn FiveWords w S v.flash
  size0 = sweep_fits.flash_sized

  abbrev q1 : ℕ → Bool
  q1 = is_spare_exposed (slot_at v.flash.words) st

  size1 : SizedIn FiveWords w S (without_exposed sizes v)
  unfolding without_exposed swept_exposed
  size1 = without_sized w S v.flash size0 q1

  sound1 : table_sound sizes.pages S (slot_at (without_exposed sizes v).words) ≡ true
  unfolding without_exposed swept_exposed
  sound1 = without_sound w S v.flash size0 q1 sizes.pages tests.table

  held1 : (k : ℕ) (r : Record) → k < S → slot_at (without_exposed sizes v).words k ≡ Some r → (q1 k ≡ false) × (slot_at v.flash.words k ≡ Some r)
  unfolding without_exposed swept_exposed
  held1 = without_held w S v.flash size0 q1

  abbrev q2 : ℕ → Bool
  q2 = is_erasable_obsolete (scene S (slot_at (without_exposed sizes v).words) st (twins w (without_exposed sizes v)))

  size2 : SizedIn FiveWords w S (without_obsolete sizes v)
  unfolding without_obsolete swept_obsolete
  size2 = without_sized w S (without_exposed sizes v) size1 q2

  sound2 : table_sound sizes.pages S (slot_at (without_obsolete sizes v).words) ≡ true
  unfolding without_obsolete swept_obsolete
  sound2 = without_sound w S (without_exposed sizes v) size1 q2 sizes.pages sound1

  held2 : (k : ℕ) (r : Record) → k < S → slot_at (without_obsolete sizes v).words k ≡ Some r → (q2 k ≡ false) × (slot_at (without_exposed sizes v).words k ≡ Some r)
  unfolding without_obsolete swept_obsolete
  held2 = without_held w S (without_exposed sizes v) size1 q2

  stays2 : (k : ℕ) → q2 k ≡ false → slot_at (without_obsolete sizes v).words k ≡ slot_at (without_exposed sizes v).words k
  unfolding without_obsolete swept_obsolete
  stays2 k e = (without_same w S (without_exposed sizes v) size1 q2 k e).same_slot

  abbrev q3 : ℕ → Bool
  q3 = is_higher_twin (twins w (without_obsolete sizes v))

  -- the volume with this flash
  abbrev at : Flash → Volume
  at f = record { flash = f; state = v.state }

  fits_at : (f : Flash) → SizedIn FiveWords w S f → Fits widths sizes (at f)
  fits_at f s = record { bounds = sweep_fits.bounds; allowed = sweep_fits.allowed; flash_sized = s; state_sized = sweep_fits.state_sized }

  pub fits1 : Fits widths sizes (at (without_exposed sizes v))
  fits1 = fits_at (without_exposed sizes v) size1

  pub fits2 : Fits widths sizes (at (without_obsolete sizes v))
  fits2 = fits_at (without_obsolete sizes v) size2

  each_erasable :
      NoneOrErasable widths sizes v v.flash (swept_exposed sizes v)
      × NoneOrErasable widths sizes v (without_exposed sizes v) (swept_obsolete sizes v)
      × NoneOrErasable widths sizes v (without_obsolete sizes v) (swept_twins sizes v)
  unfolding swept_exposed swept_obsolete swept_twins
  each_erasable = (
    passing_erasable widths sizes v sweep_fits tests.table sweep_sound q1 (λ k h e. (may_erase_from_lem (scene_of sizes v) _ k).1 (inr (spare_may S (slot_at v.flash.words) st (twins w v.flash) k e))),
    passing_erasable widths sizes (at (without_exposed sizes v)) fits1 sound1 sweep_sound q2
        (λ k h e. (may_erase_from_lem (scene_of sizes (at (without_exposed sizes v))) _ k).1
        (inr (both_right (is_obsolete_at (slot_at (without_exposed sizes v).words) st k) (may_erase (scene_of sizes (at (without_exposed sizes v))) k) (sym (erasable_obsolete w S (without_exposed sizes v) st k) ∙ e)))),
    passing_erasable widths sizes (at (without_obsolete sizes v)) fits2 sound2 sweep_sound q3
        (λ k h e. let j = lowest_twin w S (without_obsolete sizes v) st k e in
        (may_erase_from_lem (scene_of sizes (at (without_obsolete sizes v))) _ k).1 (inl (j.0, (let l = j.1 in omega arith), j.2, unlisted_fails S q3 j.0 j.3))),
  )

pub sweep_erases : SweepErases
sweep_erases widths sizes v e = each_erasable widths sizes v e

-- ---- then nothing is left to erase

module _ (widths : Widths) (sizes : Sizes) (v : Volume) (accepted : sweep_answer widths sizes v ≡ 0) where
  -- what is left
  abbrev pub left : Flash
  left = apply_all sizes.width (without_obsolete sizes v) (erase_steps (swept_twins sizes v))

  pub sweep_leaves : apply_all sizes.width v.flash (sweep_steps sizes v) ≡ left
  unfolding sweep_steps sweep_stages without_obsolete without_exposed apply_all_in flatten
  sweep_leaves =
      apply_append FiveWords sizes.width v.flash (erase_steps (swept_exposed sizes v)) _
      ∙ apply_append FiveWords sizes.width (without_exposed sizes v) (erase_steps (swept_obsolete sizes v)) _
      ∙ apply_append FiveWords sizes.width (without_obsolete sizes v) (erase_steps (swept_twins sizes v)) []

  held3 : (k : ℕ) (r : Record) → k < sizes.slots → slot_at left.words k ≡ Some r → (q3 widths sizes v accepted k ≡ false) × (slot_at (without_obsolete sizes v).words k ≡ Some r)
  unfolding swept_twins
  held3 = without_held sizes.width sizes.slots (without_obsolete sizes v) (size2 widths sizes v accepted) (q3 widths sizes v accepted)

  same3 : (k : ℕ) → q3 widths sizes v accepted k ≡ false → SameSlot FiveWords sizes.width (without_obsolete sizes v) left k
  unfolding swept_twins
  same3 = without_same sizes.width sizes.slots (without_obsolete sizes v) (size2 widths sizes v accepted) (q3 widths sizes v accepted)

  size3 : SizedIn FiveWords sizes.width sizes.slots left
  unfolding swept_twins
  size3 = without_sized sizes.width sizes.slots (without_obsolete sizes v) (size2 widths sizes v accepted) (q3 widths sizes v accepted)

  sound3 : table_sound sizes.pages sizes.slots (slot_at left.words) ≡ true
  unfolding swept_twins
  sound3 = without_sound sizes.width sizes.slots (without_obsolete sizes v) (size2 widths sizes v accepted) (q3 widths sizes v accepted) sizes.pages (sound2 widths sizes v accepted)

  -- twins then were twins before the last erasure
  twins_before : (j k : ℕ) → j < sizes.slots → k < sizes.slots → twins sizes.width left j k ≡ true → twins sizes.width (without_obsolete sizes v) j k ≡ true
  twins_before j k hj hk e =
      let whole = bytes_whole sizes.width sizes.slots left size3 in
      let whole2 = bytes_whole sizes.width sizes.slots (without_obsolete sizes v) (size2 widths sizes v accepted) in
      let t = (twins_exactly sizes.width left j k (whole j hj) (whole k hk)).0 e in
      let a = held3 j t.0 hj t.1 in
      let b = held3 k t.0 hk t.2 in
      (twins_exactly sizes.width (without_obsolete sizes v) j k (whole2 j hj) (whole2 k hk)).1 (t.0, a.1, b.1, sym (same3 j a.0).same_bytes ∙ t.3 ∙ (same3 k b.0).same_bytes)

  -- no slot has another as its twin
  no_twins_left : (j k : ℕ) → j < k → k < sizes.slots → twins sizes.width left j k ≡ true → ⊥
  unfolding is_higher_twin
  no_twins_left j k l h e =
      let t = twins_hold sizes.width left j k e in
      never (some_of (λ i. twins sizes.width (without_obsolete sizes v) i k) k j l (twins_before j k (omega arith) h e)) (held3 k t.0 h t.2).0

  -- a record that is left behind the first two erasures is left behind the last: in the lowest slot that holds it
  pub stays_somewhere : (k : ℕ) (r : Record) → k < sizes.slots → slot_at (without_obsolete sizes v).words k ≡ Some r → (j : ℕ) × (j < sizes.slots) × (slot_at left.words j ≡ Some r)
  stays_somewhere k r h e =
      on_test (q3 widths sizes v accepted k)
      (λ y. let j = lowest_twin sizes.width sizes.slots (without_obsolete sizes v) (state_at v.state) k y in
      let t = twins_hold sizes.width (without_obsolete sizes v) j.0 k j.2 in
      (j.0, (let l = j.1 in omega arith), (same3 j.0 j.3).same_slot ∙ t.1 ∙ ap Some (holds_one t.2 e)))
      (λ n. (k, h, (same3 k n).same_slot ∙ e))

  -- the old rule permits none
  none_permitted : (k : ℕ) → k < sizes.slots → may_erase (scene_of sizes (record { flash = left; state = v.state })) k ≡ true → ⊥
  none_permitted k h e = by ((may_erase_exactly sizes.slots (slot_at left.words) (state_at v.state) (twins sizes.width left) k).0 e)
    where
      by : (r : Record) × (slot_at left.words k ≡ Some r) × Erasable sizes.slots (slot_at left.words) (state_at v.state) r → ⊥
      by (r, f, inr spare) =
          let a = held3 k r h f in
          let b = held2 widths sizes v accepted k r h a.1 in
          let c = held1 widths sizes v accepted k r h b.1 in
          never (spare_at c.1 spare) c.0
        where
          spare_at : slot_at v.flash.words k ≡ Some r → ExposedSpare (state_at v.state) r → is_spare_exposed (slot_at v.flash.words) (state_at v.state) k ≡ true
          spare_at e x = spare_exposed sizes.slots (slot_at v.flash.words) (state_at v.state) (twins sizes.width v.flash) k e x
      by (r, f, inl (o, free)) =
          let a = held3 k r h f in
          let b = held2 widths sizes v accepted k r h a.1 in
          let obsolete = (obsolete_exactly (state_at v.state) r).1 o in
          let n = obsolete_needed sizes.slots (slot_at (without_exposed sizes v).words) (state_at v.state) (twins sizes.width (without_exposed sizes v)) k b.1 obsolete (unerasable k r b.1 obsolete b.0) in
          free (record {
            furthest = λ j s l g. let a' = held3 j s l g in n.furthest j s l (held2 widths sizes v accepted j s l a'.1).1;
            supports = supported n.supports;
          })
        where
          -- not erased among the obsolete ones it may not be
          unerasable : (k : ℕ) (r : Record) → slot_at (without_exposed sizes v).words k ≡ Some r → is_obsolete (state_at v.state) r ≡ true → q2 widths sizes v accepted k ≡ false → may_erase (scene_of sizes (record { flash = without_exposed sizes v; state = v.state })) k ≡ false
          unerasable k r e o n =
              on_test (may_erase (scene_of sizes (record { flash = without_exposed sizes v; state = v.state })) k)
              (λ y. absurd (never (erasable_obsolete sizes.width sizes.slots (without_exposed sizes v) (state_at v.state) k ∙ both (obsolete_at_lem sizes.slots (slot_at (without_exposed sizes v).words) (state_at v.state) (twins sizes.width (without_exposed sizes v)) k e o) y) n))
              (λ z. z)

          supported :
              (j : ℕ) × (s : Record) × (j < sizes.slots) × (slot_at (without_exposed sizes v).words j ≡ Some s) × (Exposed (state_at v.state) s × Straddles r s)
              → (j : ℕ) × (s : Record) × (j < sizes.slots) × (slot_at left.words j ≡ Some s) × (Exposed (state_at v.state) s × Straddles r s)
          supported x =
              let e = x.4.0 in
              let kept = stays2 widths sizes v accepted x.0 (exposed_stays sizes.width sizes.slots (without_exposed sizes v) (state_at v.state) x.0 x.3 e) in
              let s = stays_somewhere x.0 x.1 x.2 (kept ∙ x.3) in
              (s.0, x.1, s.1, s.2, x.4)

  none_suggestible : (k : ℕ) → k < sizes.slots → suggestible sizes (record { flash = left; state = v.state }) k ≡ false
  unfolding suggestible may_erase_alone listed some_below
  none_suggestible k h =
      on_test (may_erase_alone (scene_of sizes (record { flash = left; state = v.state })) k)
      (λ y. ⊎_elim
      (λ x. on_lt x.0 k
      (λ l. absurd (no_twins_left x.0 k l h x.2))
      (λ l. on_lt k x.0
      (λ g. absurd (no_twins_left k x.0 g x.1 (twins_sym sizes.width left k x.0 ∙ x.2)))
      (λ g. absurd (let same : k ≡ x.0 = omega arith in never (eq-eqb k x.0 same) x.3))))
      (λ o. absurd (none_permitted k h o))
      ((may_erase_from_lem (scene_of sizes (record { flash = left; state = v.state })) (listed (k ∷ [])) k).0 y))
      (λ n. n)

  pub is_left : (sweep_outcome widths sizes v).left ≡ left
  unfolding sweep_outcome
  is_left = ap (λ (o : Outcome Flash). o.left) (settled_done (sweep_answer widths sizes v) 0 0 v.flash (apply_all sizes.width v.flash (sweep_steps sizes v)) accepted) ∙ sweep_leaves

  pub none_left : (k : ℕ) → k < sizes.slots → suggestible sizes (record { flash = (sweep_outcome widths sizes v).left; state = v.state }) k ≡ false
  none_left k h = ap (λ (f : Flash). suggestible sizes (record { flash = f; state = v.state }) k) is_left ∙ none_suggestible k h

  bare : suggest_answer widths sizes (record { flash = (sweep_outcome widths sizes v).left; state = v.state }) ≡ 13
  unfolding suggest_answer
  bare =
      let none : some_below sizes.slots (suggestible sizes (record { flash = left; state = v.state })) ≡ false = some_none _ sizes.slots none_suggestible in
      ap (λ (f : Flash). suggest_answer widths sizes (record { flash = f; state = v.state })) is_left
      ∙ rw (suggest_answer, fits_test widths sizes (record { flash = left; state = v.state }) (fits_at widths sizes v accepted left size3), sound3, sweep_sound widths sizes v accepted, none)

pub swept_bare : SweptBare
swept_bare widths sizes v e = bare widths sizes v e

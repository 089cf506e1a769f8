-- An accepted cleaning: what is copied and where to, and what is left once all copies stand and once the block is blanked.
use Rattle.std.specs.Prelude.{ℕ, ◌≤◌, ◌<◌, ◌≡◌, ◌⊎◌, Bool, true, false, ◌&&◌, length}
use Rattle.std.proofs.Common.{arith, sym, ap, ◌∙◌, subst, inl, inr, ⊎_elim}
use Rattle.std.proofs.Math.Path.{refl}
use mathlib.Core.List.{List, [], ◌++◌, map, Memᴰ}
use Rattle.std.proofs.Math.Bool.{not}
use borrow.Author.Tests.{not-true, le-ltb}
use Rattle.bounded.specs.Choice.{on_test, never, both, both_left, both_right, not_no}
use Rattle.bounded.specs.Below.{some_below, first_below, list_below}
use Rattle.bounded.specs.BelowLaws.{all_of, some_at, first_found, first_passes, first_none_before}
use Rattle.bounded.specs.Members.{list_members, list_none, list_rises, count_most, count_split}
use Rattle.outcome.specs.Outcome.{Outcome}
use Rattle.sizes.specs.declared.Block.{Block}
use Rattle.sizes.specs.declared.Layout.TheVariants.{FiveWords}
use Rattle.sizes.specs.declared.Sizes.{Sizes}
use Rattle.sizes.specs.Blocks.{block_at, in_block}
use Rattle.record.specs.declared.Record.{Record}
use Rattle.record.specs.Slot.{Slot}
use Rattle.std.specs.Prelude.{None, Some}
use Rattle.record.specs.Slot.{slot_at, bytes_at, is_blank, record_sound, slot_sound}
use Rattle.record.specs.SlotLaws.{sound_facts, is_blank_exactly, not_blank_exactly}
use Rattle.record.specs.Flash.{Flash, Step, apply_all}
use Rattle.record.specs.FlashLaws.{SizedIn, SameSlot, Blanked, apply_append, blanks_sized, blanks_listed, blanks_unlisted}
use Rattle.record.specs.BlankAgain.{blanks_again}
use Rattle.state.specs.declared.PageState.{PageState}
use Rattle.state.specs.State.{state_at}
use Rattle.table.specs.Table.{table_sound}
use Rattle.table.proofs.TableLaws.{sound_at, blank_holds}
use Rattle.twins.specs.Twins.{twins}
use Rattle.twins.proofs.TwinsLaws.{twins_exactly, twins_hold, twins_self, twins_trans}
use Rattle.rules.specs.Volume.{Volume, volume_fits}
use Rattle.rules.specs.Permission.{Scene, scene_of, may_erase, may_erase_from}
use Rattle.rules.specs.Erase.{erase_steps}
use Rattle.upkeep.specs.Clean.{is_copied, copied_slots, blank_outside, copy_steps, clean_from, clean_to, too_few_blank, clean_copies, clean_blanks, clean_steps, clean_answer, clean_outcome}
use Rattle.upkeep.specs.Cleaned.{HoldsAt, Leaves, Cleaned, CleanedAgain, CleanAccepted}
use Rattle.rules.proofs.laws.Volume.{bytes_whole, fits_test}
use Rattle.rules.proofs.laws.Permission.{may_erase_from_lem}
use Rattle.upkeep.specs.laws.Copies.{Ready}
use Rattle.upkeep.proofs.laws.Copies.{copied, copied_sized, copied_elsewhere, copied_there, copied_blank, copied_back}
use Rattle.upkeep.proofs.laws.Tests.{CleanTests, clean_tests}
use Rattle.upkeep.proofs.laws.Tests.{clean_done}

holds_or_blank : {C : Type 0} (s : Slot) → (s ≡ None → C) → ((r : Record) → s ≡ Some r → C) → C
holds_or_blank None f g = f refl
holds_or_blank (Some r) f g = g r refl

-- a table is sound whose records are
pub sound_slots : (P S : ℕ) (t : ℕ → Slot) → ((k : ℕ) (r : Record) → k < S → t k ≡ Some r → record_sound P r ≡ true) → table_sound P S t ≡ true
unfolding table_sound slot_sound
sound_slots P S t each = all_of (λ k. slot_sound P (t k)) S (λ k h. holds_or_blank {C = slot_sound P (t k) ≡ true} (t k) (λ e. rw e) (λ r e. rw e (each k r h e)))

-- a slot's own permission is its record's
same_permission : (s : Scene) (j k : ℕ) → s.table j ≡ s.table k → may_erase s j ≡ may_erase s k
unfolding may_erase
same_permission s j k e = rw (may_erase, e)

module _ (sizes : Sizes) (v : Volume) (block : Block) (size : SizedIn FiveWords sizes.width sizes.slots v.flash) (sound : table_sound sizes.pages sizes.slots (slot_at v.flash.words) ≡ true) where
  abbrev pub slots : ℕ → Slot
  slots = slot_at v.flash.words

  abbrev pub twin : ℕ → ℕ → Bool
  twin = twins sizes.width v.flash

  abbrev pub inside : ℕ → Bool
  inside = in_block block

  abbrev pub may : ℕ → Bool
  may = may_erase_from (scene_of sizes v) inside

  abbrev pub from : List ℕ
  from = clean_from sizes v block

  abbrev pub to : List ℕ
  to = clean_to sizes v block

  -- ---- what is copied

  -- what a slot passes that is copied
  pub record IsCopied (k : ℕ) : Type 0 where
    pub below : k < sizes.slots
    pub within : inside k ≡ true
    pub full : is_blank (slots k) ≡ false
    pub barred : may k ≡ false
    pub lowest : some_below k (λ j. inside j && twin j k) ≡ false

  pub copied_facts : (k : ℕ) → Memᴰ k from → IsCopied k
  unfolding clean_from copied_slots is_copied
  copied_facts k m =
      let p = (list_members (is_copied (scene_of sizes v) inside) sizes.slots k).0 m in
      let a = both_right (inside k) _ p.1 in
      let b = both_right (not (is_blank (slots k))) _ a in
      record {
        below = p.0;
        within = both_left (inside k) _ p.1;
        full = not-true (is_blank (slots k)) (both_left (not (is_blank (slots k))) _ a);
        barred = not-true (may k) (both_left (not (may k)) (not (some_below k (λ j. inside j && twin j k))) b);
        lowest = not-true (some_below k (λ j. inside j && twin j k)) (both_right (not (may k)) (not (some_below k (λ j. inside j && twin j k))) b);
      }

  pub copied_of : (k : ℕ) → IsCopied k → Memᴰ k from
  unfolding clean_from copied_slots is_copied
  copied_of k c =
      (list_members (is_copied (scene_of sizes v) inside) sizes.slots k).1
      (c.below, both c.within (both (not_no c.full) (both (not_no c.barred) (not_no c.lowest))))

  pub copied_inside : (k : ℕ) → Memᴰ k from → inside k ≡ true
  copied_inside k m = (copied_facts k m).within

  -- twins are judged alike
  twin_may : (j k : ℕ) → twin j k ≡ true → may j ≡ true → may k ≡ true
  twin_may j k e h =
      ⊎_elim
      (λ w. (may_erase_from_lem (scene_of sizes v) inside k).1 (inl (w.0, w.1, twins_trans sizes.width v.flash w.0 j k w.2 e, w.3)))
      (λ o. let t = twins_hold sizes.width v.flash j k e in
      (may_erase_from_lem (scene_of sizes v) inside k).1 (inr (sym (same_permission (scene_of sizes v) j k (t.1 ∙ sym t.2)) ∙ o)))
      ((may_erase_from_lem (scene_of sizes v) inside j).0 h)

  -- "copied once (of twins within the block only the lowest)": a record of the block that may not be erased has a twin that is copied, perhaps itself
  pub twin_copied : (k : ℕ) (r : Record) → k < sizes.slots → inside k ≡ true → slots k ≡ Some r → may k ≡ false → (j : ℕ) × Memᴰ j from × (twin j k ≡ true)
  twin_copied k r h i e n =
      on_test (some_below k test)
      (λ s. let l = first_found test k s in
      let p = first_passes test k l in
      let j = first_below k test in
      let tj = both_right (inside j) (twin j k) p in
      let t = twins_hold sizes.width v.flash j k tj in (
        j,
        copied_of j (record {
          below = omega arith;
          within = both_left (inside j) (twin j k) p;
          full = (not_blank_exactly _).1 (_, t.1);
          barred = on_test (may j) (λ y. absurd (never (twin_may j k tj y) n)) (λ y. y);
          lowest = on_test (some_below j (λ i. inside i && twin i j))
              (λ y. let w = some_at (λ i. inside i && twin i j) j y in
              absurd (never
              (both (both_left (inside w.0) (twin w.0 j) w.2) (twins_trans sizes.width v.flash w.0 j k (both_right (inside w.0) (twin w.0 j) w.2) tj))
              (first_none_before test k w.0 w.1)))
              (λ y. y);
        }),
        tj,
      ))
      (λ s. (k, copied_of k (record { below = h; within = i; full = (not_blank_exactly (slots k)).1 (r, e); barred = n; lowest = s }), twins_self sizes.width v.flash k e))
    where
      test : ℕ → Bool
      test j = inside j && twin j k

  -- ---- where to

  record IsFree (j : ℕ) : Type 0 where
    free_below : j < sizes.slots
    free_blank : slots j ≡ None
    free_outside : inside j ≡ false

  free_facts : (j : ℕ) → Memᴰ j to → IsFree j
  unfolding clean_to blank_outside
  free_facts j m =
      let p = (list_members (λ k. is_blank (slots k) && not (inside k)) sizes.slots j).0 m in
      record { free_below = p.0; free_blank = (is_blank_exactly (slots j)).0 (both_left (is_blank (slots j)) (not (inside j)) p.1); free_outside = not-true (inside j) (both_right (is_blank (slots j)) (not (inside j)) p.1) }

  pub free_outside_block : (j : ℕ) → Memᴰ j to → inside j ≡ false
  free_outside_block j m = (free_facts j m).free_outside

  pub free_in_range : (j : ℕ) → Memᴰ j to → j < sizes.slots
  free_in_range j m = (free_facts j m).free_below

  -- ---- the copies

  -- they may be made
  pub ready : Ready sizes.width sizes.slots v.flash size v.flash 0 from to
  unfolding clean_to blank_outside
  ready =
      record {
        size = size;
        sources = λ k m. let c = copied_facts k m in let r = (not_blank_exactly (slots k)).0 c.full in
            record { source_below = c.below; held = r.0; holds_it = r.1; storable = (sound_facts sizes.pages r.0 (sound_at slots sizes.pages sizes.slots k sound c.below r.1)).v_most };
        unaltered = λ k m. record { same_slot = refl; same_bytes = refl };
        blank = λ j m. (free_facts j m).free_blank;
        rises = list_rises (λ k. is_blank (slots k) && not (inside k)) sizes.slots;
      }

  -- the flash once all copies stand
  abbrev pub copies_done : Flash
  copies_done = copied sizes.width sizes.slots v.flash size v.flash from to

  pub copies_sized : SizedIn FiveWords sizes.width sizes.slots copies_done
  copies_sized = copied_sized sizes.width sizes.slots v.flash size v.flash 0 from to ready

  -- a slot that held a record, and every slot of the block, is as it was
  pub no_target : (k : ℕ) (r : Record) → slots k ≡ Some r → ¬ (Memᴰ k to)
  no_target k r e m = blank_holds (free_facts k m).free_blank e

  pub copies_stay : (k : ℕ) (r : Record) → slots k ≡ Some r → SameSlot FiveWords sizes.width v.flash copies_done k
  copies_stay k r e = copied_elsewhere sizes.width sizes.slots v.flash size v.flash 0 from to ready k (no_target k r e)

  pub copies_inside : (k : ℕ) → inside k ≡ true → SameSlot FiveWords sizes.width v.flash copies_done k
  copies_inside k i = copied_elsewhere sizes.width sizes.slots v.flash size v.flash 0 from to ready k (λ m. never i (free_outside_block k m))

  -- what a slot holds then, some slot held before, with its contents
  pub copies_back : (k : ℕ) (r : Record) → k < sizes.slots → slot_at copies_done.words k ≡ Some r → (j : ℕ) × (j < sizes.slots) × HoldsAt sizes v.flash j r copies_done k
  copies_back k r h e =
      ⊎_elim
      (λ w. (k, h, (w.0, sym w.1.same_bytes)))
      (λ w. (w.0, (copied_facts w.0 w.1).below, (sym w.2.same_record_lem ∙ e, sym w.2.same_contents)))
      (copied_back sizes.width sizes.slots v.flash size v.flash 0 from to ready k r e)

  whole : (k : ℕ) → k < sizes.slots → length (bytes_at sizes.width v.flash.contents k) ≡ sizes.width
  whole = bytes_whole sizes.width sizes.slots v.flash size

  -- each record of the block then stands outside it, with its contents, or the old rule allows to erase it
  abbrev pub Outside : ℕ → Record → Type 0
  Outside k r = (j : ℕ) × (j < sizes.slots) × (inside j ≡ false) × HoldsAt sizes copies_done j r v.flash k

  pub twin_stands : (j k : ℕ) (r : Record) → j < sizes.slots → k < sizes.slots → slots k ≡ Some r → twin j k ≡ true → (slots j ≡ Some r) × (bytes_at sizes.width v.flash.contents j ≡ bytes_at sizes.width v.flash.contents k)
  twin_stands j k r hj hk e t = let w = (twins_exactly sizes.width v.flash j k (whole j hj) (whole k hk)).0 t in (w.1 ∙ sym w.2 ∙ e, w.3)

  module _ (room : length from ≤ length to) where
    pub outside_or_erasable : (k : ℕ) (r : Record) → k < sizes.slots → inside k ≡ true → slots k ≡ Some r → Outside k r ⊎ (may_erase (scene_of sizes v) k ≡ true)
    outside_or_erasable k r h i e =
        on_test (may k)
        (λ y. ⊎_elim
        (λ w. let t = twin_stands w.0 k r w.1 h e w.2 in let s = copies_stay w.0 r t.0 in inl (w.0, w.1, w.3, (s.same_slot ∙ t.0, s.same_bytes ∙ t.1)))
        (λ o. inr o)
        ((may_erase_from_lem (scene_of sizes v) inside k).0 y))
        (λ n. let c = twin_copied k r h i e n in
        let t = twin_stands c.0 k r (copied_facts c.0 c.1).below h e c.2 in
        let w = copied_there sizes.width sizes.slots v.flash size v.flash 0 from to ready room c.0 c.1 in
        inl (w.0, free_in_range w.0 w.1, free_outside_block w.0 w.1, (w.2.same_record_lem ∙ t.0, w.2.same_contents ∙ t.1)))

    -- ---- the block blanked

    abbrev pub block_slots : List ℕ
    block_slots = list_below sizes.slots inside

    pub block_member : (k : ℕ) → Memᴰ k block_slots → (k < sizes.slots) × (inside k ≡ true)
    block_member k m = (list_members inside sizes.slots k).0 m

    pub block_in_range : (k : ℕ) → Memᴰ k block_slots → k < sizes.slots
    block_in_range k m = (block_member k m).0

    abbrev pub left : Flash
    left = apply_all sizes.width copies_done (map Step.Blank block_slots)

    -- the steps' list leaves it
    pub steps_leave : apply_all sizes.width v.flash (clean_steps sizes v block) ≡ left
    unfolding clean_steps clean_copies clean_blanks erase_steps
    steps_leave = apply_append FiveWords sizes.width v.flash (clean_copies sizes v block) (clean_blanks sizes v block)

    pub left_sized : SizedIn FiveWords sizes.width sizes.slots left
    left_sized = blanks_sized FiveWords sizes.width sizes.slots block_slots copies_done copies_sized block_in_range

    pub left_inside : (k : ℕ) → k < sizes.slots → inside k ≡ true → Blanked FiveWords sizes.width left k
    left_inside k h i = blanks_listed FiveWords sizes.width sizes.slots block_slots copies_done k copies_sized block_in_range ((list_members inside sizes.slots k).1 (h, i))

    pub left_outside : (k : ℕ) → inside k ≡ false → SameSlot FiveWords sizes.width copies_done left k
    left_outside k o = blanks_unlisted FiveWords sizes.width sizes.slots block_slots copies_done k copies_sized block_in_range (λ m. never (block_member k m).1 o)

    pub leaves : Leaves sizes v block left
    leaves =
        record {
          block_blank = λ k h i. let b = left_inside k h i in (b.slot_blank, b.bytes_blank);
          others_stay = λ k r h o e. let a = left_outside k o in let c = copies_stay k r e in (a.same_slot ∙ c.same_slot ∙ e, a.same_bytes ∙ c.same_bytes);
          blank_stays = λ k h o e.
              let a = left_outside k o in
              let c = copied_blank sizes.width sizes.slots v.flash size v.flash 0 from to ready k (sym a.same_slot ∙ e) in
              (sym c.same_slot ∙ sym a.same_slot ∙ e, a.same_bytes ∙ c.same_bytes);
          none_new = λ k r h e. on_test (inside k)
              (λ i. absurd (blank_holds (left_inside k h i).slot_blank e))
              (λ o. let a = left_outside k o in let w = copies_back k r h (sym a.same_slot ∙ e) in (w.0, w.1, (w.2.0, w.2.1 ∙ sym a.same_bytes)));
          stays_or_erasable = λ k r h e. on_test (inside k)
              (λ i. ⊎_elim
              (λ w. let a = left_outside w.0 w.2 in inl (w.0, w.1, w.2, (a.same_slot ∙ w.3.0, a.same_bytes ∙ w.3.1)))
              (λ o. inr o)
              (outside_or_erasable k r h i e))
              (λ o. let a = left_outside k o in let c = copies_stay k r e in inl (k, h, o, (a.same_slot ∙ c.same_slot ∙ e, a.same_bytes ∙ c.same_bytes)));
        }

pub cleaned : Cleaned
cleaned widths sizes v block e =
    let a = clean_tests widths sizes v block e in
    let b = block_at sizes.slots block in
    let size = a.fits.flash_sized in
    subst (Leaves sizes v b) (sym (ap (λ o. o.left) (clean_done widths sizes v block e) ∙ steps_leave sizes v b size a.table a.room)) (leaves sizes v b size a.table a.room)

-- ---- room for the copies

-- as many blank slots in the volume as the block has slots are enough: of those in the block each is a record less to copy
room_enough : (sizes : Sizes) (v : Volume) (block : Block) → length (list_below sizes.slots (in_block block)) ≤ length (list_below sizes.slots (λ k. is_blank (slot_at v.flash.words k))) → too_few_blank sizes v block ≡ false
unfolding too_few_blank clean_from clean_to copied_slots blank_outside is_copied
room_enough sizes v block h =
    let blank : (ℕ → Bool) = λ k. is_blank (slot_at v.flash.words k) in
    let all = count_split blank (in_block block) sizes.slots in
    let of = count_split (in_block block) blank sizes.slots in
    let same = count_most (λ k. blank k && in_block block k) (λ k. in_block block k && blank k) sizes.slots (λ k l e. both (both_right (blank k) (in_block block k) e) (both_left (blank k) (in_block block k) e)) in
    let less = count_most (is_copied (scene_of sizes v) (in_block block)) (λ k. in_block block k && not (blank k)) sizes.slots
    (λ k l e. both (both_left (in_block block k) _ e) (both_left (not (blank k)) _ (both_right (in_block block k) _ e))) in
    le-ltb (length (clean_to sizes v block)) (length (clean_from sizes v block)) (omega arith)

pub clean_accepted : CleanAccepted
unfolding clean_answer
clean_accepted widths sizes v block fits starts table sound named h = rw (clean_answer, fits, starts, table, sound, named, room_enough sizes v (block_at sizes.slots block) h)

-- ---- a cleaning done again

-- the block's slots being blank, nothing is copied
nothing_copied : (sizes : Sizes) (v : Volume) (block : Block) → ((k : ℕ) → k < sizes.slots → in_block block k ≡ true → slot_at v.flash.words k ≡ None) → clean_from sizes v block ≡ []
unfolding clean_from copied_slots is_copied is_blank
nothing_copied sizes v block blank =
    list_none _ sizes.slots
    (λ k h. on_test (in_block block k) (λ i. rw (i, blank k h i)) (λ o. rw o))

pub cleaned_again : CleanedAgain
unfolding clean_answer too_few_blank clean_steps clean_copies clean_blanks copy_steps erase_steps
cleaned_again widths sizes v block again e starts named within = clean_done widths sizes after again answer ∙ ap (λ (f : Flash). record { answer = 0; second = 0; left = f }) unaltered
  where
    a : CleanTests widths sizes v block
    a = clean_tests widths sizes v block e

    b : Block
    b = block_at sizes.slots block

    b' : Block
    b' = block_at sizes.slots again

    size : SizedIn FiveWords sizes.width sizes.slots v.flash
    size = a.fits.flash_sized

    -- what the first left
    g : Flash
    g = (clean_outcome widths sizes v block).left

    is_left : g ≡ left sizes v b size a.table a.room
    is_left = ap (λ (o : Outcome Flash). o.left) (clean_done widths sizes v block e) ∙ steps_leave sizes v b size a.table a.room

    after : Volume
    after = record { flash = g; state = v.state }

    is_blank_lem : (k : ℕ) → k < sizes.slots → in_block b' k ≡ true → Blanked FiveWords sizes.width g k
    is_blank_lem k h i = subst (λ (f : Flash). Blanked FiveWords sizes.width f k) (sym is_left) (left_inside sizes v b size a.table a.room k h (within k i))

    sized : SizedIn FiveWords sizes.width sizes.slots g
    sized = subst (SizedIn FiveWords sizes.width sizes.slots) (sym is_left) (left_sized sizes v b size a.table a.room)

    none : clean_from sizes after b' ≡ []
    none = nothing_copied sizes after b' (λ k h i. (is_blank_lem k h i).slot_blank)

    fits : volume_fits widths sizes after ≡ true
    fits = fits_test widths sizes after (record { bounds = a.fits.bounds; allowed = a.fits.allowed; flash_sized = sized; state_sized = a.fits.state_sized })

    sound : table_sound sizes.pages sizes.slots (slot_at g.words) ≡ true
    sound = sound_slots sizes.pages sizes.slots (slot_at g.words)
        (λ k r h f. let w = (cleaned widths sizes v block e).none_new k r h f in sound_at (slot_at v.flash.words) sizes.pages sizes.slots w.0 a.table w.1 w.2.0)

    answer : clean_answer widths sizes after again ≡ 0
    answer = rw (clean_answer, too_few_blank, fits, starts, sound, a.sound, named, none, le-ltb (length (clean_to sizes after b')) 0 (omega arith))

    unaltered : apply_all sizes.width g (clean_steps sizes after b') ≡ g
    unaltered =
        ap (λ (l : List ℕ). apply_all sizes.width g (copy_steps sizes.width g l (clean_to sizes after b') ++ map Step.Blank (list_below sizes.slots (in_block b')))) none
        ∙ blanks_again FiveWords sizes.width sizes.slots (list_below sizes.slots (in_block b')) g sized
        (λ k m. let p = (list_members (in_block b') sizes.slots k).0 m in (p.0, is_blank_lem k p.0 p.1))

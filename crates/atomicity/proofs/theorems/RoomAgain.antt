-- On what a cut in a block's cleaning left, with a state that recovery has found again, there is room for the block's copies: each copy that stands has taken one blank slot and is one record less to copy.
use Rattle.std.specs.Prelude.{ℕ, ◌≤◌, ◌<◌, ◌≡◌, refl, ◌⊎◌, true, false, ◌&&◌, length, take, drop}
use native.Mathlib.Omega.{arith}
use Rattle.std.proofs.Common.{sym, ◌∙◌, inl, inr, ⊎_elim, length-drop}
use mathlib.Core.List.{List, [], Memᴰ}
use Rattle.std.proofs.Math.Bool.{not}
use borrow.Author.Tests.{not-true}
use Rattle.bounded.specs.Choice.{on_test, never, both, both_left, both_right, not_no}
use Rattle.bounded.specs.Below.{some_below}
use Rattle.bounded.specs.BelowLaws.{some_of, some_at}
use Rattle.bounded.specs.Members.{Rises, list_members, list_rises}
use Rattle.sizes.specs.declared.Block.{Block}
use Rattle.sizes.specs.declared.Layout.TheVariants.{FiveWords}
use Rattle.sizes.specs.declared.Sizes.{Sizes}
use Rattle.sizes.specs.Blocks.{in_block}
use Rattle.record.specs.declared.Record.{Record}
use Rattle.record.specs.Slot.{Slot}
use Rattle.std.specs.Prelude.{None, Some}
use Rattle.record.specs.Slot.{slot_at, bytes_at, is_blank}
use Rattle.record.specs.SlotLaws.{is_blank_exactly, not_blank_exactly}
use Rattle.record.specs.FlashLaws.{SizedIn, SameSlot}
use Rattle.state.specs.State.{state_at, in_flight}
use Rattle.table.specs.Table.{table_sound}
use Rattle.twins.specs.Twins.{twins}
use Rattle.twins.proofs.TwinsLaws.{twins_exactly}
use Rattle.rules.specs.Volume.{Volume}
use Rattle.rules.proofs.laws.Volume.{bytes_whole}
use Rattle.rules.specs.Permission.{scene_of}
use Rattle.rules.proofs.laws.Permission.{may_erase_from_lem}
use Rattle.upkeep.specs.Clean.{copied_slots, blank_outside, clean_from, clean_to}
use Rattle.upkeep.specs.Cleaned.{HoldsAt}
use Rattle.upkeep.proofs.laws.Fronts.{behind_member, rises_behind, front_or_behind, rises_fewer}
use Rattle.upkeep.proofs.laws.Clean as clean
use Rattle.protocol.specs.View.{finds_in_slots}
use Rattle.protocol.specs.Shared.{comm_of}
use Rattle.protocol.specs.BackPointer.{Core}
use Rattle.protocol.specs.Permitted.{Permitted, may_erase_permitted}
use Rattle.atomicity.proofs.steps.Sparing.{HeldIn, ErasedBy}
use Rattle.atomicity.proofs.steps.StillErasable.{permitted_may_erase, still_permitted}
use Rattle.atomicity.proofs.steps.CutCleaning.{erasable, CutLeaves, FirstStand, AllStand}

-- ---- the lists of a cleaning

module _ (sizes : Sizes) (v : Volume) (block : Block) where
  from_rises : Rises 0 sizes.slots (clean_from sizes v block)
  unfolding clean_from copied_slots
  from_rises = list_rises _ sizes.slots

  to_rises : Rises 0 sizes.slots (clean_to sizes v block)
  unfolding clean_to blank_outside
  to_rises = list_rises _ sizes.slots

  to_facts : (k : ℕ) → Memᴰ k (clean_to sizes v block) → (k < sizes.slots) × (slot_at v.flash.words k ≡ None) × (in_block block k ≡ false)
  unfolding clean_to blank_outside
  to_facts k m =
      let p = (list_members (λ k. is_blank (slot_at v.flash.words k) && not (in_block block k)) sizes.slots k).0 m in
      (p.0, (is_blank_exactly (slot_at v.flash.words k)).0 (both_left (is_blank (slot_at v.flash.words k)) (not (in_block block k)) p.1), not-true (in_block block k) (both_right (is_blank (slot_at v.flash.words k)) (not (in_block block k)) p.1))

  to_of : (k : ℕ) → k < sizes.slots → slot_at v.flash.words k ≡ None → in_block block k ≡ false → Memᴰ k (clean_to sizes v block)
  unfolding clean_to blank_outside
  to_of k h e o = (list_members (λ k. is_blank (slot_at v.flash.words k) && not (in_block block k)) sizes.slots k).1 (h, both ((is_blank_exactly (slot_at v.flash.words k)).1 e) (not_no o))

-- what lets a slot of the block go without a copy
module _ (sizes : Sizes) (v : Volume) (block : Block) (size : SizedIn FiveWords sizes.width sizes.slots v.flash) (sound : table_sound sizes.pages sizes.slots (slot_at v.flash.words) ≡ true) (k : ℕ) where
  abbrev TwinOutside : Type 0
  TwinOutside = (j : ℕ) × (j < sizes.slots) × (twins sizes.width v.flash j k ≡ true) × (in_block block j ≡ false)

  may_of : TwinOutside ⊎ (erasable sizes v k ≡ true) → clean.may sizes v block size sound k ≡ true
  may_of w = (may_erase_from_lem (scene_of sizes v) (in_block block) k).1 w

  may_cases : clean.may sizes v block size sound k ≡ true → TwinOutside ⊎ (erasable sizes v k ≡ true)
  may_cases e = (may_erase_from_lem (scene_of sizes v) (in_block block) k).0 e

-- ---- the block again, on what a cut left

-- `u` is the volume v with the flash that a cut left, and with a state that recovery has found again
module _
    (sizes : Sizes) (v u : Volume) (block : Block)
    (size : SizedIn FiveWords sizes.width sizes.slots v.flash) (sound : table_sound sizes.pages sizes.slots (slot_at v.flash.words) ≡ true) (room : length (clean_from sizes v block) ≤ length (clean_to sizes v block))
    (size' : SizedIn FiveWords sizes.width sizes.slots u.flash) (sound' : table_sound sizes.pages sizes.slots (slot_at u.flash.words) ≡ true)
    {kept : ℕ → List ℕ} (core : Core (HeldIn FiveWords sizes.width sizes.slots v.flash) (comm_of (state_at v.state)) sizes.pages kept)
    (same_committed : (p : ℕ) → p < sizes.pages → (state_at u.state p).committed ≡ (state_at v.state p).committed) (at_rest_lem : (p : ℕ) → p < sizes.pages → in_flight (state_at u.state p) ≡ false) where
  abbrev w : ℕ
  w = sizes.width

  abbrev S : ℕ
  S = sizes.slots

  abbrev t : ℕ → Slot
  t = slot_at v.flash.words

  abbrev t' : ℕ → Slot
  t' = slot_at u.flash.words

  -- a slot that holds a copy of what k held is k's twin, where k is as it was
  twin_there : (j k : ℕ) (r : Record) → j < S → k < S → t k ≡ Some r → SameSlot FiveWords w v.flash u.flash k → HoldsAt sizes u.flash j r v.flash k → twins w u.flash j k ≡ true
  twin_there j k r hj hk e s c =
      let whole = bytes_whole w S u.flash size' in
      (twins_exactly w u.flash j k (whole j hj) (whole k hk)).1 (r, c.0, s.same_slot ∙ e, c.1 ∙ sym s.same_bytes)

  -- twins that are as they were are twins
  twins_still : (j k : ℕ) → j < S → k < S → SameSlot FiveWords w v.flash u.flash j → SameSlot FiveWords w v.flash u.flash k → twins w v.flash j k ≡ true → twins w u.flash j k ≡ true
  twins_still j k hj hk sj sk e =
      let whole = bytes_whole w S v.flash size in
      let b = (twins_exactly w v.flash j k (whole j hj) (whole k hk)).0 e in
      twin_there j k b.0 hj hk b.2 sk (sj.same_slot ∙ b.1, sj.same_bytes ∙ b.3)

  module _ (left : CutLeaves sizes v block u.flash) where
    erased : ErasedBy Permitted (HeldIn FiveWords w S v.flash) (HeldIn FiveWords w S u.flash) (state_at v.state)
    erased =
        record {
          fewer = λ r b h. let x = left.none_new h.0 r h.1 h.2 in (x.0, x.1, x.2.0, x.2.1 ∙ h.3);
          finds_before = finds_in_slots S t (bytes_at w v.flash.contents);
          finds = finds_in_slots S t' (bytes_at w u.flash.contents);
          stays_or_permitted = λ r b h.
              ⊎_elim
              (λ x. inl (x.0, x.1, x.2.0, x.2.1 ∙ h.3))
              (λ o. inr (may_erase_permitted S t (bytes_at w v.flash.contents) (state_at v.state) (twins w v.flash) h.0 r o h.2))
              (left.stays_or_erasable h.0 r h.1 h.2);
        }

    -- what the old rule allowed it allows
    still_erasable : (k : ℕ) (r : Record) → k < S → in_block block k ≡ true → t' k ≡ Some r → erasable sizes v k ≡ true → erasable sizes u k ≡ true
    still_erasable k r h i e o =
        permitted_may_erase S t' (bytes_at w u.flash.contents) (state_at u.state) (twins w u.flash) k r e
        (still_permitted erased core (state_at u.state) same_committed at_rest_lem r (bytes_at w u.flash.contents k) (k, h, e, refl)
        (may_erase_permitted S t (bytes_at w v.flash.contents) (state_at v.state) (twins w v.flash) k r o (sym (left.inside_same k r i e).same_slot ∙ e)))

  -- ---- the first n copies stand: none of their records is copied again, and no other that was not

  module _ (n : ℕ) (first : FirstStand sizes v block n u.flash) where
    module _ (k : ℕ) (m : Memᴰ k (clean_from sizes u block)) where
      facts : clean.IsCopied sizes u block size' sound' k
      facts = clean.copied_facts sizes u block size' sound' k m

      unaltered : SameSlot FiveWords w v.flash u.flash k
      unaltered = first.block_same k facts.within

      held : (r : Record) × (t' k ≡ Some r)
      held = (not_blank_exactly (t' k)).0 facts.full

      was : t k ≡ Some held.0
      was = sym unaltered.same_slot ∙ held.1

      was_barred : clean.may sizes v block size sound k ≡ false
      was_barred =
          on_test (clean.may sizes v block size sound k)
          (λ y. absurd (never (may_of sizes u block size' sound' k (over (may_cases sizes v block size sound k y))) facts.barred))
          (λ y. y)
        where
          over : TwinOutside sizes v block size sound k ⊎ (erasable sizes v k ≡ true) → TwinOutside sizes u block size' sound' k ⊎ (erasable sizes u k ≡ true)
          over (inl x) =
              let b = clean.twin_stands sizes v block size sound x.0 k held.0 x.1 facts.below was x.2 in
              inl (x.0, x.1, twins_still x.0 k x.1 facts.below (first.held_same x.0 held.0 b.0) unaltered x.2, x.3)
          over (inr o) = inr (still_erasable first.first_left k held.0 facts.below facts.within held.1 o)

      was_lowest : some_below k (λ j. in_block block j && twins w v.flash j k) ≡ false
      was_lowest =
          on_test (some_below k (λ j. in_block block j && twins w v.flash j k))
          (λ y. let x = some_at (λ j. in_block block j && twins w v.flash j k) k y in
          let l = x.1 in
          let b = facts.below in
          let i = both_left (in_block block x.0) (twins w v.flash x.0 k) x.2 in
          let e = both_right (in_block block x.0) (twins w v.flash x.0 k) x.2 in
          absurd (never
          (some_of (λ j. in_block block j && twins w u.flash j k) k x.0 l (both i (twins_still x.0 k (omega arith) b (first.block_same x.0 i) unaltered e)))
          facts.lowest))
          (λ y. y)

      was_copied : Memᴰ k (clean_from sizes v block)
      was_copied = clean.copied_of sizes v block size sound k (record { below = facts.below; within = facts.within; full = (not_blank_exactly (t k)).1 (held.0, was); barred = was_barred; lowest = was_lowest })

      -- its copy would be its twin outside
      uncopied : ¬ (Memᴰ k (take n (clean_from sizes v block)))
      uncopied f =
          let x = first.copy_stands k held.0 was f in
          never (may_of sizes u block size' sound' k (inl (x.0, x.1, twin_there x.0 k held.0 x.1 facts.below was unaltered x.3, x.2))) facts.barred

      behind : Memᴰ k (drop n (clean_from sizes v block))
      behind = front_or_behind n (clean_from sizes v block) k was_copied uncopied

    free_still : (k : ℕ) → Memᴰ k (drop n (clean_to sizes v block)) → Memᴰ k (clean_to sizes u block)
    free_still k m =
        let f = to_facts sizes v block k (behind_member n (clean_to sizes v block) k m) in
        to_of sizes u block k f.0 ((first.behind_same k m).same_slot ∙ f.1) f.2

    first_room : length (clean_from sizes u block) ≤ length (clean_to sizes u block)
    first_room =
        let a = rises_fewer 0 S (clean_from sizes u block) (drop n (clean_from sizes v block)) (from_rises sizes u block) (rises_behind n 0 S (clean_from sizes v block) (from_rises sizes v block)) behind in
        let b = rises_fewer 0 S (drop n (clean_to sizes v block)) (clean_to sizes u block) (rises_behind n 0 S (clean_to sizes v block) (to_rises sizes v block)) (to_rises sizes u block) free_still in
        let d = length-drop n (clean_from sizes v block) in
        let e = length-drop n (clean_to sizes v block) in
        omega arith

  -- ---- all copies stand: nothing is copied

  module _ (all : AllStand sizes v block u.flash) where
    none_copied : (k : ℕ) → Memᴰ k (clean_from sizes u block) → ⊥
    none_copied k m =
        let c = clean.copied_facts sizes u block size' sound' k m in
        let r = (not_blank_exactly (t' k)).0 c.full in
        let s = all.all_left.inside_same k r.0 c.within r.1 in
        let was : t k ≡ Some r.0 = sym s.same_slot ∙ r.1 in
        never
        (may_of sizes u block size' sound' k
        (⊎_elim
        (λ x. inl (x.0, x.1, twin_there x.0 k r.0 x.1 c.below was s x.3, x.2))
        (λ o. inr (still_erasable all.all_left k r.0 c.below c.within r.1 o))
        (all.outside_or_erasable k r.0 c.below c.within was)))
        c.barred

    all_room : length (clean_from sizes u block) ≤ length (clean_to sizes u block)
    unfolding Rises
    all_room = let a = rises_fewer 0 S (clean_from sizes u block) [] (from_rises sizes u block) (omega arith) (λ k m. absurd (none_copied k m)) in omega arith

  pub room_again : ((n : ℕ) × FirstStand sizes v block n u.flash) ⊎ AllStand sizes v block u.flash → length (clean_from sizes u block) ≤ length (clean_to sizes u block)
  room_again (inl x) = first_room x.0 x.1
  room_again (inr x) = all_room x

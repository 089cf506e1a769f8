-- The slots that a cleaning's copies fill are those that were blank and no longer are, rising, and each copy stores what its slot then holds.
use Prim.Native.Nat.{ℕ, suc, ◌≤◌, ◌<◌}
use Rattle.std.proofs.Common.{arith, ◌∙◌, length-take-le}
use Rattle.std.specs.Prelude.{◌≡◌, true, false, ◌&&◌, length, take}
use Rattle.std.proofs.Math.Path.{refl, sym, ap, ap₂, subst}
use Rattle.std.proofs.Math.Logic.{⊎_elim}
use mathlib.Core.List.Memᴰ
use mathlib.Core.List.{List, [], ◌∷◌, map, Memᴰ}
use Rattle.std.proofs.Math.Bool.{Bool, not}
use Rattle.std.proofs.Math.Seq.{take-length}
use Rattle.std.proofs.lemmas.Bool.{not-true}
use Rattle.bounded.specs.Choice.{on_test, never, both, both_left, both_right, not_no}
use Rattle.bounded.specs.Below.{list_below}
use Rattle.bounded.specs.Members.{listed?, list_members, list_rises}
use Rattle.sizes.specs.declared.Block.{Block}
use Rattle.sizes.specs.declared.Layout.TheVariants.{FiveWords}
use Rattle.sizes.specs.declared.Sizes.{Sizes}
use Rattle.sizes.specs.Blocks.{block_at, in_block}
use Rattle.record.specs.declared.Record.{Record}
use Rattle.record.specs.Slot.{Slot}
use Rattle.std.specs.Prelude.{None, Some}
use Rattle.record.specs.Slot.{slot_at, bytes_at, is_blank}
use Rattle.record.specs.SlotLaws.{is_blank_exactly, not_blank_exactly}
use Rattle.record.specs.Flash.{Flash, Step, apply_all_in, apply_all}
use Rattle.record.specs.FlashLaws.{SizedIn, SameSlot}
use Rattle.table.specs.Table.{table_sound}
use Rattle.rules.specs.Volume.{Volume}
use Rattle.upkeep.specs.Clean.{record_in, copy_step, copy_steps, clean_from, clean_to, clean_copies}
use Rattle.upkeep.specs.Cleaned.{filled_slots, stored_as, Fills, CleanFills}
use Rattle.upkeep.proofs.laws.Tests.{clean_tests, clean_done}
use Rattle.upkeep.proofs.laws.Fronts.{front_member, rises_front, rises_same}
use Rattle.upkeep.specs.laws.Copies.{Ready}
use Rattle.upkeep.proofs.laws.Copies.{CopyOf, copied, copied_elsewhere, copy_there, first, first_source, first_below_lem, not_again, ready_on}
use Rattle.upkeep.proofs.laws.Clean as clean

-- copies go to as many slots as there are, the first ones
pub copies_to_front : (w : ℕ) (f : Flash) (from to : List ℕ) → copy_steps w f from to ≡ copy_steps w f from (take (length from) to)
unfolding copy_steps
copies_to_front w f [] to = refl
copies_to_front w f (k ∷ from) [] = refl
copies_to_front w f (k ∷ from) (j ∷ to) = ap (λ (l : List Step). copy_step w f k j ∷ l) (copies_to_front w f from to)

module _ (w S : ℕ) (f : Flash) (sized : SizedIn FiveWords w S f) where
  -- fewer copies may be made too
  pub ready_front : (g : Flash) (b : ℕ) (from to : List ℕ) (m n : ℕ) → Ready w S f sized g b from to → Ready w S f sized g b (take m from) (take n to)
  ready_front g b from to m n ready =
      record {
        size = ready.size;
        sources = λ k h. ready.sources k (front_member m from k h);
        unaltered = λ k h. ready.unaltered k (front_member m from k h);
        blank = λ j h. ready.blank j (front_member n to j h);
        rises = rises_front n b S to ready.rises;
      }

  -- once the rest stand too, the first target holds a copy of the first source
  module _ (g : Flash) (b k : ℕ) (from : List ℕ) (j : ℕ) (to : List ℕ) (ready : Ready w S f sized g b (k ∷ from) (j ∷ to)) where
    first_copied : CopyOf w S f sized (copied w S f sized (first w S f sized g b k from j to ready) from to) k j
    first_copied =
        let s = first_source w S f sized g b k from j to ready in
        let t = copy_there w S f sized g ready.size k j s (first_below_lem w S f sized g b k from j to ready) in
        let r = copied_elsewhere w S f sized (first w S f sized g b k from j to ready) (suc j) from to (ready_on w S f sized g b k from j to ready) j (not_again w S f sized g b k from j to ready) in
        record { same_record_lem = r.same_slot ∙ t.0 ∙ sym s.holds_it; same_contents = r.same_bytes ∙ t.1 }

  -- where there are no more targets than sources, each holds a copy of a source
  pub targets_copied :
      (g : Flash) (b : ℕ) (from to : List ℕ) → Ready w S f sized g b from to → length to ≤ length from → (j : ℕ) → Memᴰ j to → (k : ℕ) × Memᴰ k from × CopyOf w S f sized (copied w S f sized g from to) k j
  unfolding copy_steps apply_all_in
  targets_copied g b from [] ready room i m = absurd (Memᴰ.not-nil m)
  targets_copied g b [] (j ∷ to) ready room i m = absurd (omega arith)
  targets_copied g b (k ∷ from) (j ∷ to) ready room i m =
      ⊎_elim
      (λ e. (k, Memᴰ.head refl, subst (CopyOf w S f sized (copied w S f sized (first w S f sized g b k from j to ready) from to) k) (sym e) (first_copied g b k from j to ready)))
      (λ n. let c = targets_copied (first w S f sized g b k from j to ready) (suc j) from to (ready_on w S f sized g b k from j to ready) (omega arith) i n in (c.0, Memᴰ.tail c.1, c.2))
      (Memᴰ.cases_cons m)

  -- each copy stores what its target holds, in any flash h in which the targets are as the copies leave them
  pub copies_as_shown :
      (g : Flash) (b : ℕ) (from to : List ℕ)
      → Ready w S f sized g b from to
      → length from ≡ length to
      → (h : Flash)
      → ((j : ℕ) → Memᴰ j to → SameSlot FiveWords w (copied w S f sized g from to) h j)
      → copy_steps w f from to ≡ map (stored_as w h) to
  unfolding copy_steps apply_all_in copy_step stored_as
  copies_as_shown g b [] [] ready room h same = refl
  copies_as_shown g b [] (j ∷ to) ready room h same = absurd (omega arith)
  copies_as_shown g b (k ∷ from) [] ready room h same = absurd (omega arith)
  copies_as_shown g b (k ∷ from) (j ∷ to) ready room h same =
      let c = first_copied g b k from j to ready in
      let s = same j (Memᴰ.head refl) in
      let r : record_in (slot_at f.words k) ≡ record_in (slot_at h.words j) = ap record_in (sym (s.same_slot ∙ c.same_record_lem)) in
      let d : bytes_at w f.contents k ≡ bytes_at w h.contents j = sym (s.same_bytes ∙ c.same_contents) in
      ap₂ {C = List Step} (λ (x : Step) (l : List Step). x ∷ l) (ap₂ {C = Step} (λ (x : Record) (l : List ℕ). Step.Store j x l) r d)
      (copies_as_shown (first w S f sized g b k from j to ready) (suc j) from to (ready_on w S f sized g b k from j to ready) (omega arith) h (λ i m. same i (Memᴰ.tail m)))

-- ---- a cleaning

module _ (sizes : Sizes) (v : Volume) (block : Block) (size : SizedIn FiveWords sizes.width sizes.slots v.flash) (sound : table_sound sizes.pages sizes.slots (slot_at v.flash.words) ≡ true)
    (room : length (clean_from sizes v block) ≤ length (clean_to sizes v block)) where
  abbrev from : List ℕ
  from = clean_from sizes v block

  -- the slots that are copied to
  abbrev pub targets : List ℕ
  targets = take (length from) (clean_to sizes v block)

  abbrev before : ℕ → Slot
  before = slot_at v.flash.words

  abbrev left : Flash
  left = clean.left sizes v block size sound room

  -- the copies to these slots are all
  ready : Ready sizes.width sizes.slots v.flash size v.flash 0 from targets
  ready =
      subst (λ (l : List ℕ). Ready sizes.width sizes.slots v.flash size v.flash 0 l targets) (take-length from)
      (ready_front sizes.width sizes.slots v.flash size v.flash 0 from (clean_to sizes v block) (length from) (length from) (clean.ready sizes v block size sound))

  many : length from ≡ length targets
  many = sym (length-take-le (length from) (clean_to sizes v block) room)

  all_copies : copy_steps sizes.width v.flash from targets ≡ copy_steps sizes.width v.flash from (clean_to sizes v block)
  all_copies = sym (copies_to_front sizes.width v.flash from (clean_to sizes v block))

  abbrev stood : Flash
  stood = copied sizes.width sizes.slots v.flash size v.flash from targets

  -- the blankings leave a slot outside the block as the copies do
  outside_stays : (k : ℕ) → in_block block k ≡ false → SameSlot FiveWords sizes.width stood left k
  outside_stays k o =
      subst (λ (l : List Step). SameSlot FiveWords sizes.width (apply_all sizes.width v.flash l) left k) (sym all_copies) (clean.left_outside sizes v block size sound room k o)

  target : (k : ℕ) → Memᴰ k targets → Memᴰ k (clean_to sizes v block)
  target k m = front_member (length from) (clean_to sizes v block) k m

  target_stays : (k : ℕ) → Memᴰ k targets → SameSlot FiveWords sizes.width stood left k
  target_stays k m = outside_stays k (clean.free_outside_block sizes v block size sound k (target k m))

  filled : (k : ℕ) → Memᴰ k targets → (r : Record) × (slot_at left.words k ≡ Some r)
  filled k m =
      let c = targets_copied sizes.width sizes.slots v.flash size v.flash 0 from targets ready (omega (arith, many)) k m in
      let s = ready.sources c.0 c.1 in
      (s.held, (target_stays k m).same_slot ∙ c.2.same_record_lem ∙ s.holds_it)

  unfilled : (k : ℕ) → k < sizes.slots → ¬ (Memᴰ k targets) → before k ≡ None → slot_at left.words k ≡ None
  unfilled k h n e =
      on_test (in_block block k)
      (λ i. (clean.left_inside sizes v block size sound room k h i).slot_blank)
      (λ o. (outside_stays k o).same_slot ∙ (copied_elsewhere sizes.width sizes.slots v.flash size v.flash 0 from targets ready k n).same_slot ∙ e)

  is_filled : targets ≡ filled_slots sizes.slots v.flash left
  unfolding filled_slots
  is_filled =
      rises_same 0 sizes.slots targets (list_below sizes.slots test) ready.rises (list_rises test sizes.slots)
      (λ k m. (list_members test sizes.slots k).1 (
        clean.free_in_range sizes v block size sound k (target k m),
        both ((is_blank_exactly (before k)).1 (ready.blank k m)) (not_no ((not_blank_exactly (slot_at left.words k)).1 (filled k m))),
      ))
      (λ k m. let p = (list_members test sizes.slots k).0 m in
      ⊎_elim
      (λ t. t)
      (λ n. absurd (never
      ((is_blank_exactly (slot_at left.words k)).1 (unfilled k p.0 n ((is_blank_exactly (before k)).0 (both_left (is_blank (before k)) (not (is_blank (slot_at left.words k))) p.1))))
      (not-true (is_blank (slot_at left.words k)) (both_right (is_blank (before k)) (not (is_blank (slot_at left.words k))) p.1))))
      (listed? k targets))
    where
      test : ℕ → Bool
      test k = is_blank (before k) && not (is_blank (slot_at left.words k))

  fills : Fills sizes v block left
  unfolding clean_copies
  fills =
      record {
        targets_filled = is_filled;
        copies_shown =
            sym all_copies
            ∙ copies_as_shown sizes.width sizes.slots v.flash size v.flash 0 from targets ready many left target_stays
            ∙ ap (map (stored_as sizes.width left)) is_filled;
      }

pub clean_fills : CleanFills
clean_fills widths sizes v block e =
    let a = clean_tests widths sizes v block e in
    let b = block_at sizes.slots block in
    let size = a.fits.flash_sized in
    subst (Fills sizes v b) (sym (ap (λ o. o.left) (clean_done widths sizes v block e) ∙ clean.steps_leave sizes v b size a.table a.room)) (fills sizes v b size a.table a.room)

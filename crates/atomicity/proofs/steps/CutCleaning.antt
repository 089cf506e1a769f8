-- What a crash in a cleaning leaves: the first of the copies, or all of them and some slots of the block blanked.
use Prim.Native.Nat.{ℕ, zero, suc, ◌≤◌, ◌<◌}
use native.Mathlib.Omega.{arith}
use Rattle.std.specs.Prelude.{◌≡◌, ◌⊎◌, Bool, true, false, length, take, drop}
use Rattle.std.proofs.Common.{sym, ◌∙◌, length-take-le}
use Rattle.std.proofs.Math.Path.{ap, subst}
use Rattle.std.proofs.Math.Logic.{inl, inr, ⊎_elim}
use mathlib.Core.List.{List, [], ◌∷◌, ◌++◌, map, Memᴰ}
use Rattle.bounded.specs.Choice.{on_test, never}
use Rattle.bounded.specs.Members.{listed?}
use Rattle.sizes.specs.declared.Block.{Block}
use Rattle.sizes.specs.declared.Layout.TheVariants.{FiveWords}
use Rattle.sizes.specs.declared.Sizes.{Sizes}
use Rattle.sizes.specs.Blocks.{in_block}
use Rattle.record.specs.declared.Record.{Record}
use Rattle.std.specs.Prelude.{Some}
use Rattle.record.specs.Slot.{slot_at}
use Rattle.record.specs.Flash.{Flash, Step, apply_all_in, apply_all}
use Rattle.record.specs.FlashLaws.{SizedIn, SameSlot, apply_append, blanks_sized, blanks_listed, blanks_unlisted}
use Rattle.table.specs.Table.{table_sound}
use Rattle.table.proofs.TableLaws.{blank_holds}
use Rattle.rules.specs.Volume.{Volume}
use Rattle.rules.specs.Permission.{scene_of, may_erase}
use Rattle.rules.specs.Erase.{erase_steps}
use Rattle.upkeep.specs.Clean.{copy_step, copy_steps, clean_from, clean_to, clean_copies, clean_blanks, clean_stages}
use Rattle.upkeep.specs.Cleaned.{HoldsAt}
use Rattle.upkeep.specs.laws.Copies.{Ready}
use Rattle.upkeep.proofs.laws.Copies.{copied, copied_sized, copied_elsewhere, copied_there, copied_back}
use Rattle.upkeep.proofs.laws.Filled.{ready_front}
use Rattle.upkeep.proofs.laws.Fronts.{front_member, not_both}
use Rattle.upkeep.proofs.laws.Clean as clean
use Rattle.atomicity.specs.Run.{done_of, steps_cut_short, was_done}
use Rattle.atomicity.proofs.steps.Sparing.{chosen, done_blanks, chosen_listed}
use Rattle.atomicity.proofs.steps.Stages.{cut_first, cut_later, cut_one}

-- ---- the steps done

module _ (w : ℕ) (f : Flash) (slots : List ℕ) where
  -- the first n copies; or all, and a part of the slots blanked
  abbrev FirstCopies : (from to : List ℕ) → List Step → Type 0
  FirstCopies from to steps = (n : ℕ) × (n ≤ length from) × (steps ≡ copy_steps w f (take n from) (take n to))

  abbrev AllCopies : (from to : List ℕ) → List Step → Type 0
  AllCopies from to steps = (part : List ℕ) × ((k : ℕ) → Memᴰ k part → Memᴰ k slots) × (steps ≡ copy_steps w f from to ++ map Step.Blank part)

  abbrev stages_of : (from to : List ℕ) → List (List Step)
  stages_of from to = map (λ s. s ∷ []) (copy_steps w f from to) ++ (map Step.Blank slots ∷ [])

  pub steps_cut : (stage : ℕ) (done : ℕ → Bool) (from to : List ℕ) → length from ≤ length to → FirstCopies from to (steps_cut_short stage done (stages_of from to)) ⊎ AllCopies from to (steps_cut_short stage done (stages_of from to))
  unfolding copy_steps done_of
  steps_cut stage done [] to room =
      inr (chosen (was_done stage done 0) 0 slots, chosen_listed (was_done stage done 0) 0 slots, cut_one stage done (map Step.Blank slots) ∙ done_blanks (was_done stage done 0) 0 slots)
  steps_cut stage done (k ∷ from) [] room = absurd (omega arith)
  steps_cut zero done (k ∷ from) (j ∷ to) room =
      on_test (done 0)
      (λ e. inl (1, omega arith, cut_first done (copy_step w f k j ∷ []) (stages_of from to) ∙ rw e))
      (λ e. inl (0, omega arith, cut_first done (copy_step w f k j ∷ []) (stages_of from to) ∙ rw e))
  steps_cut (suc stage) done (k ∷ from) (j ∷ to) room =
      ⊎_elim
      (λ c. inl (suc c.0, (let l = c.1 in omega arith), cut_later stage done (copy_step w f k j ∷ []) (stages_of from to) ∙ ap (λ (l : List Step). copy_step w f k j ∷ l) c.2))
      (λ c. inr (c.0, c.1, cut_later stage done (copy_step w f k j ∷ []) (stages_of from to) ∙ ap (λ (l : List Step). copy_step w f k j ∷ l) c.2))
      (steps_cut stage done from to (omega arith))

-- ---- what they leave

-- the old rule allows to erase slot k
abbrev pub erasable : Sizes → Volume → ℕ → Bool
erasable sizes v k = may_erase (scene_of sizes v) k

module _ (sizes : Sizes) (v : Volume) (block : Block) where
  -- the flash g, wherever the crash fell:
  pub record CutLeaves (g : Flash) : Type 0 where
    pub sized : SizedIn FiveWords sizes.width sizes.slots g
    -- a record that is there was there, with its contents,
    pub none_new : (k : ℕ) (r : Record) → k < sizes.slots → slot_at g.words k ≡ Some r → (j : ℕ) × (j < sizes.slots) × HoldsAt sizes v.flash j r g k
    -- one that was there is there, or the old rule allows to erase it,
    pub stays_or_erasable :
        (k : ℕ) (r : Record)
        → k < sizes.slots
        → slot_at v.flash.words k ≡ Some r
        → ((j : ℕ) × (j < sizes.slots) × HoldsAt sizes g j r v.flash k) ⊎ (erasable sizes v k ≡ true)
    -- and a slot of the block that holds one is as it was
    pub inside_same : (k : ℕ) (r : Record) → in_block block k ≡ true → slot_at g.words k ≡ Some r → SameSlot FiveWords sizes.width v.flash g k

  -- the first n copies stand
  pub record FirstStand (n : ℕ) (g : Flash) : Type 0 where
    pub most : n ≤ length (clean_from sizes v block)
    pub first_left : CutLeaves g
    pub block_same : (k : ℕ) → in_block block k ≡ true → SameSlot FiveWords sizes.width v.flash g k
    pub held_same : (k : ℕ) (r : Record) → slot_at v.flash.words k ≡ Some r → SameSlot FiveWords sizes.width v.flash g k
    pub copy_stands :
        (k : ℕ) (r : Record)
        → slot_at v.flash.words k ≡ Some r
        → Memᴰ k (take n (clean_from sizes v block))
        → (j : ℕ) × (j < sizes.slots) × (in_block block j ≡ false) × HoldsAt sizes g j r v.flash k
    pub behind_same : (k : ℕ) → Memᴰ k (drop n (clean_to sizes v block)) → SameSlot FiveWords sizes.width v.flash g k

  -- all of them do
  pub record AllStand (g : Flash) : Type 0 where
    pub all_left : CutLeaves g
    pub outside_or_erasable :
        (k : ℕ) (r : Record)
        → k < sizes.slots
        → in_block block k ≡ true
        → slot_at v.flash.words k ≡ Some r
        → ((j : ℕ) × (j < sizes.slots) × (in_block block j ≡ false) × HoldsAt sizes g j r v.flash k) ⊎ (erasable sizes v k ≡ true)

  module _ (size : SizedIn FiveWords sizes.width sizes.slots v.flash) (sound : table_sound sizes.pages sizes.slots (slot_at v.flash.words) ≡ true)
      (room : length (clean_from sizes v block) ≤ length (clean_to sizes v block)) where
    abbrev w : ℕ
    w = sizes.width

    abbrev S : ℕ
    S = sizes.slots

    abbrev from : List ℕ
    from = clean_from sizes v block

    abbrev to : List ℕ
    to = clean_to sizes v block

    -- ---- the first n copies

    module _ (n : ℕ) (most : n ≤ length (clean_from sizes v block)) where
      ready : Ready w S v.flash size v.flash 0 (take n from) (take n to)
      ready = ready_front w S v.flash size v.flash 0 from to n n (clean.ready sizes v block size sound)

      abbrev some : Flash
      some = copied w S v.flash size v.flash (take n from) (take n to)

      enough : length (take n from) ≤ length (take n to)
      enough = let a = length-take-le n from most in let b = length-take-le n to (omega arith) in omega arith

      untargeted : (k : ℕ) → ¬ (Memᴰ k (take n to)) → SameSlot FiveWords w v.flash some k
      untargeted k u = copied_elsewhere w S v.flash size v.flash 0 (take n from) (take n to) ready k u

      inside_some : (k : ℕ) → in_block block k ≡ true → SameSlot FiveWords w v.flash some k
      inside_some k i = untargeted k (λ m. never i (clean.free_outside_block sizes v block size sound k (front_member n to k m)))

      held_some : (k : ℕ) (r : Record) → slot_at v.flash.words k ≡ Some r → SameSlot FiveWords w v.flash some k
      held_some k r e = untargeted k (λ m. clean.no_target sizes v block size sound k r e (front_member n to k m))

      first_stand : FirstStand n some
      first_stand =
          record {
            most = most;
            first_left = record {
              sized = copied_sized w S v.flash size v.flash 0 (take n from) (take n to) ready;
              none_new = λ k r h e.
                  ⊎_elim
                  (λ u. (k, h, (u.0, sym u.1.same_bytes)))
                  (λ u. (u.0, (ready.sources u.0 u.1).source_below, (sym u.2.same_record_lem ∙ e, sym u.2.same_contents)))
                  (copied_back w S v.flash size v.flash 0 (take n from) (take n to) ready k r e);
              stays_or_erasable = λ k r h e. let s = held_some k r e in inl (k, h, (s.same_slot ∙ e, s.same_bytes));
              inside_same = λ k r i e. inside_some k i;
            };
            block_same = inside_some;
            held_same = held_some;
            copy_stands = λ k r e m.
                let c = copied_there w S v.flash size v.flash 0 (take n from) (take n to) ready enough k m in
                let t = front_member n to c.0 c.1 in
                (c.0, clean.free_in_range sizes v block size sound c.0 t, clean.free_outside_block sizes v block size sound c.0 t, (c.2.same_record_lem ∙ e, c.2.same_contents));
            behind_same = λ k m. untargeted k (not_both n 0 S to (clean.ready sizes v block size sound).rises k m);
          }

    -- none of them: the flash is as it was
    pub none_stand : FirstStand 0 v.flash
    unfolding copy_steps apply_all_in
    none_stand = first_stand 0 (omega arith)

    -- ---- all, and a part of the block blanked

    module _ (part : List ℕ) (listed : (k : ℕ) → Memᴰ k part → Memᴰ k (clean.block_slots sizes v block size sound room)) where
      abbrev stood : Flash
      stood = clean.copies_done sizes v block size sound

      abbrev blanked : Flash
      blanked = apply_all w stood (map Step.Blank part)

      member : (k : ℕ) → Memᴰ k part → (k < S) × (in_block block k ≡ true)
      member k m = clean.block_member sizes v block size sound room k (listed k m)

      within : (k : ℕ) → Memᴰ k part → k < S
      within k m = (member k m).0

      stood_sized : SizedIn FiveWords w S stood
      stood_sized = clean.copies_sized sizes v block size sound

      unlisted : (k : ℕ) → ¬ (Memᴰ k part) → SameSlot FiveWords w stood blanked k
      unlisted k u = blanks_unlisted FiveWords w S part stood k stood_sized within u

      outside_same : (k : ℕ) → in_block block k ≡ false → SameSlot FiveWords w stood blanked k
      outside_same k o = unlisted k (λ m. never (member k m).1 o)

      held_same : (k : ℕ) (r : Record) → slot_at blanked.words k ≡ Some r → SameSlot FiveWords w stood blanked k
      held_same k r e =
          ⊎_elim
          (λ m. absurd (blank_holds (blanks_listed FiveWords w S part stood k stood_sized within m).slot_blank e))
          (unlisted k)
          (listed? k part)

      outside :
          (k : ℕ) (r : Record)
          → k < S
          → in_block block k ≡ true
          → slot_at v.flash.words k ≡ Some r
          → ((j : ℕ) × (j < S) × (in_block block j ≡ false) × HoldsAt sizes blanked j r v.flash k) ⊎ (erasable sizes v k ≡ true)
      outside k r h i e =
          ⊎_elim
          (λ o. let s = outside_same o.0 o.2 in inl (o.0, o.1, o.2, (s.same_slot ∙ o.3.0, s.same_bytes ∙ o.3.1)))
          (λ m. inr m)
          (clean.outside_or_erasable sizes v block size sound room k r h i e)

      all_stand : AllStand blanked
      all_stand =
          record {
            all_left = record {
              sized = blanks_sized FiveWords w S part stood stood_sized within;
              none_new = λ k r h e.
                  let s = held_same k r e in
                  let u = clean.copies_back sizes v block size sound k r h (sym s.same_slot ∙ e) in
                  (u.0, u.1, (u.2.0, u.2.1 ∙ sym s.same_bytes));
              stays_or_erasable = λ k r h e. on_test (in_block block k)
                  (λ i. ⊎_elim (λ o. inl (o.0, o.1, o.3)) (λ m. inr m) (outside k r h i e))
                  (λ o. let s = outside_same k o in let c = clean.copies_stay sizes v block size sound k r e in inl (k, h, (s.same_slot ∙ c.same_slot ∙ e, s.same_bytes ∙ c.same_bytes)));
              inside_same = λ k r i e.
                  let s = held_same k r e in
                  let c = clean.copies_inside sizes v block size sound k i in
                  record { same_slot = s.same_slot ∙ c.same_slot; same_bytes = s.same_bytes ∙ c.same_bytes };
            };
            outside_or_erasable = outside;
          }

    -- ---- a crash

    pub cut_leaves :
        (stage : ℕ) (done : ℕ → Bool)
        → ((n : ℕ) × FirstStand n (apply_all w v.flash (steps_cut_short stage done (clean_stages sizes v block)))) ⊎ AllStand (apply_all w v.flash (steps_cut_short stage done (clean_stages sizes v block)))
    unfolding clean_stages clean_copies clean_blanks erase_steps
    cut_leaves stage done =
        ⊎_elim
        (λ c. inl (c.0, subst (λ (l : List Step). FirstStand c.0 (apply_all w v.flash l)) (sym c.2) (first_stand c.0 c.1)))
        (λ c. inr (subst AllStand (sym (ap (apply_all w v.flash) c.2 ∙ apply_append FiveWords w v.flash (copy_steps w v.flash from to) (map Step.Blank c.0))) (all_stand c.0 c.1)))
        (steps_cut w v.flash (clean.block_slots sizes v block size sound room) stage done from to room)

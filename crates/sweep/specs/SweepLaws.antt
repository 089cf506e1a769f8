-- The three erasures: each blanks slots of the flash, which stays sound, and the three in a row are the sweep's.
use Rattle.std.specs.Prelude.{ℕ, ◌<◌, ◌≡◌, List, Bool, true, length, get_or}
use Rattle.std.proofs.Common.{arith, sym, ◌∙◌, subst}
use Rattle.std.proofs.Math.Path.{ap}
use Rattle.bounded.specs.Limits.{Widths}
use Rattle.bounded.specs.Below.{list_below}
use Rattle.bounded.specs.Passing.{list_entry}
use Rattle.sizes.specs.declared.Layout.TheVariants.{FiveWords}
use Rattle.sizes.specs.declared.Sizes.{Sizes}
use Rattle.record.specs.Slot.{slot_at}
use Rattle.record.specs.Flash.{Flash, flash, apply_all}
use Rattle.record.specs.FlashLaws.{SizedIn}
use Rattle.state.specs.State.{state_at}
use Rattle.table.specs.Table.{table_sound}
use Rattle.twins.specs.Twins.{twins}
use Rattle.rules.specs.Permission.{scene}
use Rattle.rules.specs.Volume.{Volume, volume, volume_fits}
use Rattle.rules.specs.Erase.{erase_steps}
use Rattle.upkeep.specs.Sweep.{is_spare_exposed, is_erasable_obsolete, is_higher_twin, swept_exposed, without_exposed, swept_obsolete, without_obsolete, swept_twins, sweep_answer}
use Rattle.rules.specs.laws.Chains.{judged_in, judged}
use Rattle.upkeep.proofs.laws.Sweep.{without_sized, without_sound}
use Rattle.judge.specs.Judgeable.{SoundFlash}
use Rattle.collect.specs.EraseLaws.{ListedIn, listed_in}

-- ---- one erasure

module _ (sizes : Sizes) (words contents : List ℕ) (q : ℕ → Bool) where
  abbrev pub Erased : Flash → Type 0
  Erased g = g ≡ apply_all sizes.width (flash words contents) (erase_steps (list_below sizes.slots q))

  module _ {list : List ℕ} (chosen : list ≡ list_below sizes.slots q) where
    -- the slots chosen are in the flash,
    pub chosen_listed : SoundFlash sizes words contents → ListedIn FiveWords sizes.width words contents list
    chosen_listed s =
        listed_in FiveWords sizes.width sizes.slots (flash words contents) list s.flash_sized
        (subst (λ (l : List ℕ). (i : ℕ) → i < length l → get_or l i 0 < sizes.slots) (sym chosen) (λ i h. (list_entry q sizes.slots i h).0))

    -- and, blanked, they are those that pass
    pub chosen_erased : {g : Flash} → g ≡ apply_all sizes.width (flash words contents) (erase_steps list) → Erased g
    chosen_erased e = e ∙ ap (λ (l : List ℕ). apply_all sizes.width (flash words contents) (erase_steps l)) chosen

  -- what is left is sound
  pub erased_sound : SoundFlash sizes words contents → {words' contents' : List ℕ} → Erased (flash words' contents') → SoundFlash sizes words' contents'
  erased_sound s {words'} {contents'} e =
      let size : SizedIn FiveWords sizes.width sizes.slots (flash words' contents') =
      subst (SizedIn FiveWords sizes.width sizes.slots) (sym e) (without_sized sizes.width sizes.slots (flash words contents) s.flash_sized q) in
      let length_is = size.words_sized in
      record {
        linkable = record {
          slots_few = s.linkable.slots_few;
          slots_in_lem = omega arith;
          sound = subst (λ (g : Flash). table_sound sizes.pages sizes.slots (slot_at g.words) ≡ true) (sym e)
              (without_sound sizes.width sizes.slots (flash words contents) s.flash_sized q sizes.pages s.linkable.sound);
        };
        flash_sized = size;
        width_few = s.width_few;
      }

-- ---- the three in a row

module _ (sizes : Sizes) (words contents state : List ℕ) where
  abbrev v : Volume
  v = volume words contents state

  abbrev spare : List ℕ → ℕ → Bool
  spare words = is_spare_exposed (slot_at words) (state_at state)

  abbrev erasable : Flash → ℕ → Bool
  erasable f = is_erasable_obsolete (scene sizes.slots (slot_at f.words) (state_at state) (twins sizes.width f))

  abbrev higher : Flash → ℕ → Bool
  higher f = is_higher_twin (twins sizes.width f)

  module _
      {words₁ contents₁ words₂ contents₂ : List ℕ}
      (exposed : Erased sizes words contents (spare words) (flash words₁ contents₁))
      (obsolete : Erased sizes words₁ contents₁ (erasable (flash words₁ contents₁)) (flash words₂ contents₂)) where
    exposed_erased : flash words₁ contents₁ ≡ without_exposed sizes v
    unfolding without_exposed swept_exposed
    exposed_erased = exposed

    obsolete_erased : flash words₂ contents₂ ≡ without_obsolete sizes v
    unfolding without_obsolete swept_obsolete
    obsolete_erased = obsolete ∙ ap (λ (f : Flash). apply_all sizes.width f (erase_steps (list_below sizes.slots (erasable f)))) exposed_erased

    pub three_erased : {g : Flash} → Erased sizes words₂ contents₂ (higher (flash words₂ contents₂)) g → g ≡ apply_all sizes.width (without_obsolete sizes v) (erase_steps (swept_twins sizes v))
    unfolding swept_twins
    three_erased e = e ∙ ap (λ (f : Flash). apply_all sizes.width f (erase_steps (list_below sizes.slots (higher f)))) obsolete_erased

-- ---- the answer

-- conditions 1, 2 and 5, and no other
pub answer_judged : (widths : Widths) (sizes : Sizes) (v : Volume) {n : ℕ} → n ≡ judged (volume_fits widths sizes v) sizes.pages sizes.slots v.flash.words v.state → n ≡ sweep_answer widths sizes v
unfolding sweep_answer judged_in
answer_judged widths sizes v said = said

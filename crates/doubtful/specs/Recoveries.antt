-- Recovery of a filling's words by the contents as they are, into whatever state, says what recovery of the filling does.
use Rattle.std.specs.Prelude.{ℕ, ◌*◌, ◌<◌, ◌≡◌, refl, ◌⊎◌, Bool, true, false, Result, Ok, Err, length}
use Rattle.std.proofs.Math.Path.{sym, ap, fun_ext}
use Rattle.std.proofs.Common.{◌∙◌}
use Rattle.std.proofs.Math.Logic.{inl, inr}
use mathlib.Core.List.{List, [], ◌∷◌, Memᴰ}
use borrow.Author.Tests.{eq-eqb, ne_eqb}
use Rattle.std.specs.Result.{is_err}
use Rattle.bounded.specs.Limits.{Widths}
use Rattle.bounded.specs.Choice.{never}
use Rattle.bounded.specs.Members.{listed?}
use Rattle.outcome.specs.declared.Refusal.{Refusal}
use Rattle.outcome.specs.Outcome.{Outcome}
use Rattle.outcome.specs.Result.{number_positive, outcome_by}
use Rattle.sizes.specs.declared.Layout.TheVariants.{FiveWords}
use Rattle.sizes.specs.declared.Sizes.{Sizes}
use Rattle.record.specs.Slot.{Slot}
use Rattle.std.specs.Prelude.{None, Some}
use Rattle.record.specs.Slot.{slot_at, bytes_at, holds}
use Rattle.record.specs.Flash.{Flash, Step, flash, put_slot_in, apply_in, apply_all_in}
use Rattle.record.specs.FlashLaws.{Sized, members_below, blanks_sized, blanks_listed, blanks_unlisted}
use Rattle.twins.specs.Twins.{same_record, twins}
use Rattle.rules.specs.Volume.{volume}
use Rattle.rules.specs.Erase.{erase_steps}
use Rattle.rules.specs.Recover.{recover_outcome}
use Rattle.upkeep.specs.Doubtful.{absent_in, filled_with, recovery_of, recovers}
use Rattle.rules.proofs.laws.Recover.{recover_reads_twins}
use Rattle.upkeep.proofs.laws.Fillings.{absent_listed}
use Rattle.upkeep.proofs.laws.Doubtful.{any_sheet_answer, any_sheet_left}
use Rattle.doubtful.specs.Fillable.{Fillable}
use Rattle.doubtful.specs.Filled.{blanked_words}
use Rattle.doubtful.specs.Versions.{versions_noted, filling_noted}

-- ---- the words of a filling

filled_words : (w : ℕ) (f : Flash) (slots : List ℕ) → (filled_with w f slots).words ≡ blanked_words f.words slots
unfolding filled_with erase_steps apply_all_in apply_in put_slot_in blanked_words
filled_words w f [] = refl
filled_words w f (k ∷ slots) = filled_words w (apply_in FiveWords w f (Step.Blank k)) slots

-- ---- twins in a filling

-- a blank slot is no twin
blank_no_twin : (s : Slot) → same_record None s ≡ false
unfolding same_record holds
blank_no_twin None = refl
blank_no_twin (Some r) = refl

module _ (w S : ℕ) (f : Flash) (size : Sized w S f) (slots : List ℕ) (inside : (k : ℕ) → Memᴰ k slots → k < S) where
  abbrev filling : Flash
  filling = filled_with w f slots

  filling_sized : Sized w S filling
  unfolding filled_with erase_steps
  filling_sized = blanks_sized FiveWords w S slots f size inside

  -- a slot is blank in it, or has its bytes as they were
  slot_filled : (k : ℕ) → (slot_at filling.words k ≡ None) ⊎ (bytes_at w filling.contents k ≡ bytes_at w f.contents k)
  unfolding filled_with erase_steps
  slot_filled k = by (listed? k slots)
    where
      by : Memᴰ k slots ⊎ ¬ (Memᴰ k slots) → (slot_at filling.words k ≡ None) ⊎ (bytes_at w filling.contents k ≡ bytes_at w f.contents k)
      by (inl m) = inl (blanks_listed FiveWords w S slots f k size inside m).slot_blank
      by (inr n) = inr (blanks_unlisted FiveWords w S slots f k size inside n).same_bytes

  -- so by the bytes as they were the same slots are twins
  same_twins : twins w (flash filling.words f.contents) ≡ twins w filling
  unfolding twins same_record
  same_twins = fun_ext (λ j. fun_ext (λ k. at j k (slot_filled j) (slot_filled k)))
    where
      at :
          (j k : ℕ)
          → (slot_at filling.words j ≡ None) ⊎ (bytes_at w filling.contents j ≡ bytes_at w f.contents j)
          → (slot_at filling.words k ≡ None) ⊎ (bytes_at w filling.contents k ≡ bytes_at w f.contents k)
          → twins w (flash filling.words f.contents) j k ≡ twins w filling j k
      at j k (inl b) y = rw (b, blank_no_twin (slot_at filling.words k))
      at j k (inr a) (inl b) = rw b
      at j k (inr a) (inr b) = rw (a, b)

-- ---- what a call gives back

-- A refusal answers its number,
err_answers : (given : Result ℕ Refusal) (left : List ℕ) → is_err given ≡ true → ¬ ((outcome_by 0 given left).answer ≡ 0)
err_answers (Ok links) left e = absurd (never e refl)
err_answers (Err refusal) left e = number_positive refusal

-- a call that is done answers 0,
ok_answers : (given : Result ℕ Refusal) (left : List ℕ) → is_err given ≡ false → (outcome_by 0 given left).answer ≡ 0
ok_answers (Ok links) left e = refl
ok_answers (Err refusal) left e = absurd (never refl e)

-- and each leaves what it leaves.
all_left : (given : Result ℕ Refusal) (left : List ℕ) → (outcome_by 0 given left).left ≡ left
all_left (Ok links) left = refl
all_left (Err refusal) left = refl

-- ---- recovery of a filling

module _ (widths : Widths) (sizes : Sizes) (words contents list : List ℕ) (fill : Fillable sizes words contents list) (m : ℕ) where
  abbrev filling_at : Flash
  filling_at = filled_with sizes.width (flash words contents) (absent_in list m)

  absent_inside : (k : ℕ) → Memᴰ k (absent_in list m) → k < sizes.slots
  absent_inside k b = members_below sizes.slots list fill.inside k (absent_listed list m k b)

  module _ (state : List ℕ) {filled : List ℕ} (is_filled : filled ≡ blanked_words words (absent_in list m)) where
    -- by the contents as they are recovery says the same,
    by_twins : recover_outcome widths sizes (volume filled contents state) ≡ recover_outcome widths sizes (record { flash = filling_at; state = state })
    by_twins =
        let size = fill.flash_sized in
        let sized = filling_sized sizes.width sizes.slots (flash words contents) size (absent_in list m) absent_inside in
        ap (λ (ws : List ℕ). recover_outcome widths sizes (volume ws contents state)) (is_filled ∙ sym (filled_words sizes.width (flash words contents) (absent_in list m)))
        ∙ recover_reads_twins widths sizes filling_at.words contents filling_at.contents state (size.contents_sized ∙ sym sized.contents_sized)
        (same_twins sizes.width sizes.slots (flash words contents) size (absent_in list m) absent_inside)

    module _ (state_sized : length state ≡ 4 * sizes.pages) where
      -- into whatever state of that length it gives the same answer,
      filling_answers : (recover_outcome widths sizes (volume filled contents state)).answer ≡ (recovery_of widths sizes filling_at).answer
      filling_answers = ap (λ (o : Outcome (List ℕ)). o.answer) by_twins ∙ sym (any_sheet_answer widths sizes filling_at state state_sized)

      -- and where that is 0 leaves the same words
      filling_leaves : (recover_outcome widths sizes (volume filled contents state)).answer ≡ 0 → (recover_outcome widths sizes (volume filled contents state)).left ≡ (recovery_of widths sizes filling_at).left
      filling_leaves e = ap (λ (o : Outcome (List ℕ)). o.left) by_twins ∙ sym (any_sheet_left widths sizes filling_at state state_sized (sym filling_answers ∙ e))

      -- so what it gives back says whether the filling recovers, and the versions that it leaves are the filling's
      module _ (given : Result ℕ Refusal) (left : List ℕ) (says : outcome_by 0 given left ≡ recover_outcome widths sizes (volume filled contents state)) (first : Bool) (out : List ℕ) where
        abbrev said : Outcome (List ℕ)
        said = outcome_by 0 given left

        answers : said.answer ≡ (recovery_of widths sizes filling_at).answer
        answers = ap (λ (o : Outcome (List ℕ)). o.answer) says ∙ filling_answers

        pub filling_fails : is_err given ≡ true → (false ≡ recovers widths sizes (flash words contents) list m) × (out ≡ filling_noted widths sizes (flash words contents) list m first out)
        unfolding recovers filling_noted
        filling_fails e =
            let no = ne_eqb (recovery_of widths sizes filling_at).answer 0 (λ z. err_answers given left e (answers ∙ z)) in
            (sym no, rw (filling_noted, recovers, no))

        pub filling_succeeds : is_err given ≡ false → (true ≡ recovers widths sizes (flash words contents) list m) × (versions_noted sizes.pages first left out ≡ filling_noted widths sizes (flash words contents) list m first out)
        unfolding recovers filling_noted
        filling_succeeds e =
            let z = ok_answers given left e in
            let a = ap (λ (o : Outcome (List ℕ)). o.answer) says in
            let l = sym (all_left given left) ∙ ap (λ (o : Outcome (List ℕ)). o.left) says ∙ filling_leaves (sym a ∙ z) in
            let yes = eq-eqb (recovery_of widths sizes filling_at).answer 0 (sym answers ∙ z) in
            (sym yes, rw (filling_noted, recovers, yes) (ap (λ (s : List ℕ). versions_noted sizes.pages first s out) l))

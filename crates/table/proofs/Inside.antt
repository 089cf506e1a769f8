-- The words of a slot of the table lie inside the table's words; the first two of a record are its page and version.
use Prim.Native.Nat.{ℕ, ◌+◌, ◌*◌, ◌≤◌, ◌<◌}
use Rattle.std.proofs.Common.{arith, sym, ap, ◌∙◌, eqb-true}
use Rattle.std.specs.Prelude.{◌≡◌, refl, true, false, ◌&&◌, eqb, length, get_or}
use mathlib.Core.List.{List}
use Rattle.std.proofs.lemmas.Bool.{false≢true}
use Rattle.bounded.specs.Limits.{no_number}
use Rattle.bounded.specs.Choice.{on_test, both_left, both_right}
use Rattle.bounded.specs.Parts.{part}
use Rattle.bounded.specs.PartsLaws.{part_inside, part_at, element_there}
use Rattle.sizes.specs.declared.Layout.{Layout}
use Rattle.sizes.specs.declared.Layout.TheVariants.{FiveWords, FourWords}
use Rattle.sizes.specs.Sizes.{stride_of}
use Rattle.record.specs.declared.Record.{Record}
use Rattle.std.specs.Prelude.{Some}
use Rattle.record.specs.Slot.{decoded, blank_in, slot_from, slot_in, holds}
use Rattle.table.specs.Table.{of_version}
use Rattle.table.proofs.TableLaws.{holds_of, of_version_lem}

pub slot_inside : (layout : Layout) (S k : ℕ) (words : List ℕ) → stride_of layout * S ≤ length words → k < S → stride_of layout * k + stride_of layout ≤ length words
slot_inside layout S k words fit h = let i = part_inside (stride_of layout) S k h in omega arith

-- in either layout
pub two_words : (layout : Layout) (ws : List ℕ) → ((decoded layout ws).p ≡ get_or ws 0 no_number) × ((decoded layout ws).v ≡ get_or ws 1 no_number) × (2 ≤ stride_of layout)
unfolding decoded
two_words FiveWords ws = (refl, refl, omega arith)
two_words FourWords ws = (refl, refl, omega arith)

module _ (layout : Layout) (words : List ℕ) (k p v : ℕ) (inside : stride_of layout * k + stride_of layout ≤ length words) where
  held_words : holds (of_version p v) (slot_in layout words k) ≡ true → (get_or words (stride_of layout * k) 0 ≡ p) × (get_or words (stride_of layout * k + 1) 0 ≡ v)
  unfolding slot_in slot_from holds of_version
  held_words e = on_test (blank_in layout (part (stride_of layout) k words)) (λ b. absurd (false≢true (rw b at e))) (λ b. fields (rw b at e))
    where
      ws : List ℕ
      ws = part (stride_of layout) k words

      -- word i of the slot, as it is read
      word : (i : ℕ) → i < stride_of layout → get_or words (stride_of layout * k + i) 0 ≡ get_or ws i no_number
      word i h = element_there words (stride_of layout * k + i) 0 no_number (omega arith) ∙ sym (part_at (stride_of layout) k words i no_number h)

      fields : (eqb (decoded layout ws).p p && eqb (decoded layout ws).v v) ≡ true → (get_or words (stride_of layout * k) 0 ≡ p) × (get_or words (stride_of layout * k + 1) 0 ≡ v)
      fields h =
          let w = two_words layout ws in
          let n = w.2 in
          let z : stride_of layout * k + 0 ≡ stride_of layout * k = omega arith in (
            ap (λ (i : ℕ). get_or words i 0) (sym z) ∙ word 0 (omega arith) ∙ sym w.0 ∙ eqb-true _ _ (both_left (eqb (decoded layout ws).p p) (eqb (decoded layout ws).v v) h),
            word 1 (omega arith) ∙ sym w.1 ∙ eqb-true _ _ (both_right (eqb (decoded layout ws).p p) (eqb (decoded layout ws).v v) h),
          )

  -- another first word or another second: no record of the page at the version
  pub other_page : ¬ (get_or words (stride_of layout * k) 0 ≡ p) → holds (of_version p v) (slot_in layout words k) ≡ false
  other_page d = on_test (holds (of_version p v) (slot_in layout words k)) (λ e. absurd (d (held_words e).0)) (λ e. e)

  pub other_version : ¬ (get_or words (stride_of layout * k + 1) 0 ≡ v) → holds (of_version p v) (slot_in layout words k) ≡ false
  other_version d = on_test (holds (of_version p v) (slot_in layout words k)) (λ e. absurd (d (held_words e).1)) (λ e. e)

-- a record's first word is its page
pub first_word : (layout : Layout) (words : List ℕ) (k : ℕ) (r : Record) → stride_of layout * k + stride_of layout ≤ length words → slot_in layout words k ≡ Some r → get_or words (stride_of layout * k) 0 ≡ r.p
first_word layout words k r inside e = (held_words layout words k r.p r.v inside (holds_of (of_version r.p r.v) e ((of_version_lem r.p r.v r).1 (refl, refl)))).0

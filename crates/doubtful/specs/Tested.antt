-- What a call tests before a filling is tried: the list, entry by entry; and its answer, by these tests and the number of fillings that recover.
use Rattle.std.specs.Prelude.{ℕ, zero, suc, ◌≤◌, ◌<◌, ◌≡◌, List, Bool, ◌&&◌, ltb, eqb, length, take, get_or}
use Rattle.std.specs.List.{list_all}
use Rattle.std.proofs.Common.{arith, add-one, sym, ap, ◌∙◌}
use Rattle.std.proofs.Math.Seq.{take-length}
use Rattle.std.proofs.lemmas.List.Folds.{list_all_more}
use Rattle.std.proofs.Math.Path.{refl}
use Rattle.std.proofs.Math.Bool.{true, false, not}
use mathlib.Core.Bool.{and_assoc}
use borrow.Author.Tests.{le-leb, ltb-false, eq-eqb, ne_eqb}
use Rattle.bounded.specs.Limits.{Widths}
use Rattle.bounded.specs.Below.{all_below}
use Rattle.outcome.specs.Outcome.{◌⇒◌otherwise◌}
use Rattle.outcome.specs.OutcomeLaws.{passed, held}
use Rattle.outcome.specs.Chain.{first_of, first_refuses, first_passes}
use Rattle.sizes.specs.declared.Sizes.{Sizes}
use Rattle.sizes.specs.Sizes.{in_range, no_repeats, list_ok}
use Rattle.record.specs.Slot.{slot_at, is_blank}
use Rattle.record.specs.Flash.{Flash}
use Rattle.table.specs.Table.{table_sound}
use Rattle.upkeep.specs.Doubtful.{max_doubtful, recovering, doubtful_list_ok, doubtful_fits, doubtful_answer}
use Rattle.upkeep.proofs.laws.Fillings.{FitsFacts, fits_facts}
use Rattle.doubtful.specs.Fillable.{Fillable, fillable}

-- ---- the list

-- entry i names a slot that is not blank
unfoldable pub held_at : (words list : List ℕ) → (i : ℕ) → Bool
held_at words list i = not (is_blank (slot_at words (get_or list i 0)))

module _ (S : ℕ) (words list : List ℕ) where
  -- "whose empty-list rule does not apply here"
  pub list_none : length list ≡ 0 → true ≡ doubtful_list_ok S words list
  unfolding doubtful_list_ok in_range no_repeats all_below
  list_none e = rw (doubtful_list_ok, in_range, no_repeats, e)

  -- of any other list the two other rules do,
  list_split : ¬ (length list ≡ 0) → doubtful_list_ok S words list ≡ (list_ok S list && all_below (length list) (held_at words list))
  unfolding doubtful_list_ok list_ok held_at
  list_split d = rw (list_ok, le-leb 1 (length list) (omega arith)) (sym (and_assoc (in_range S list) (no_repeats list) (all_below (length list) (held_at words list))))

  pub list_fails : ¬ (length list ≡ 0) → list_ok S list ≡ false → false ≡ doubtful_list_ok S words list
  list_fails some e = sym (list_split some ∙ rw e)

  -- a walk over the first n entries finds whether one of them is a blank slot's
  all_first : (n : ℕ) → n ≤ length list → list_all (λ k. not (is_blank (slot_at words k))) (take n list) ≡ all_below n (held_at words list)
  unfolding all_below held_at
  all_first zero h = refl
  all_first (suc n) h =
      let here : n < length list = omega arith in
      rw (← add-one n) (list_all_more (λ k. not (is_blank (slot_at words k))) list n 0 here ∙ ap (λ (b : Bool). b && held_at words list n) (all_first n (omega arith)))

  -- and "a listed blank slot is 6"
  pub list_walked : ¬ (length list ≡ 0) → list_ok S list ≡ true → list_all (λ k. not (is_blank (slot_at words k))) list ≡ doubtful_list_ok S words list
  list_walked some e =
      ap (list_all (λ k. not (is_blank (slot_at words k)))) (sym (take-length list))
      ∙ all_first (length list) (omega arith)
      ∙ sym (list_split some ∙ rw e)

-- ---- the answer

module _ (widths : Widths) (sizes : Sizes) (f : Flash) (list out : List ℕ) where
  -- the conditions that are tried before a filling is
  unfoldable pub doubtful_tested : ℕ
  doubtful_tested =
      not (doubtful_fits widths sizes f out) ⇒ 1 otherwise
      not (table_sound sizes.pages sizes.slots (slot_at f.words)) ⇒ 2 otherwise
      not (doubtful_list_ok sizes.slots f.words list) ⇒ 6 otherwise
      ltb max_doubtful (length list) ⇒ 19 otherwise
      0

  -- "20, no filling recovers, after 19"
  tested_first : doubtful_answer widths sizes f list out ≡ first_of doubtful_tested (eqb (recovering widths sizes f list) 0 ⇒ 20 otherwise 0)
  unfolding doubtful_answer doubtful_tested first_of
  tested_first = by (doubtful_fits widths sizes f out) (table_sound sizes.pages sizes.slots (slot_at f.words)) (doubtful_list_ok sizes.slots f.words list) (ltb max_doubtful (length list)) _
    where
      by :
          (a b c d : Bool) (own : ℕ)
          → (not a ⇒ 1 otherwise not b ⇒ 2 otherwise not c ⇒ 6 otherwise d ⇒ 19 otherwise own)
          ≡ first_of (not a ⇒ 1 otherwise not b ⇒ 2 otherwise not c ⇒ 6 otherwise d ⇒ 19 otherwise 0) own
      by false b c d own = refl
      by true false c d own = refl
      by true true false d own = refl
      by true true true true own = refl
      by true true true false own = refl

  pub test_refuses : {first : ℕ} → first ≡ doubtful_tested → ¬ (first ≡ 0) → first ≡ doubtful_answer widths sizes f list out
  test_refuses {first} e d = first_refuses first _ e d ∙ sym tested_first

  module _ (passes : 0 ≡ doubtful_tested) where
    module _ {count : ℕ} (is_count : count ≡ recovering widths sizes f list) where
      pub none_recovers : count ≡ 0 → 20 ≡ doubtful_answer widths sizes f list out
      none_recovers z = first_passes 0 20 passes refl (rw (eq-eqb (recovering widths sizes f list) 0 (sym is_count ∙ z))) ∙ sym tested_first

      pub some_recovers : ¬ (count ≡ 0) → 0 ≡ doubtful_answer widths sizes f list out
      some_recovers d = first_passes 0 0 passes refl (rw (ne_eqb (recovering widths sizes f list) 0 (λ z. d (is_count ∙ z)))) ∙ sym tested_first

    -- the sizes, the lengths and the listed slots are right
    pub tested_right : FitsFacts sizes f out × Fillable sizes f.words f.contents list
    unfolding doubtful_tested
    tested_right =
        let a = held (doubtful_fits widths sizes f out) _ _ (sym passes) in
        let b = held (table_sound sizes.pages sizes.slots (slot_at f.words)) _ _ a.1 in
        let c = held (doubtful_list_ok sizes.slots f.words list) _ _ b.1 in
        let few = ltb-false max_doubtful (length list) (passed (ltb max_doubtful (length list)) _ _ c.1).0 in
        (fits_facts widths sizes f out a.0, fillable sizes f.words f.contents list widths out a.0 c.0 few)

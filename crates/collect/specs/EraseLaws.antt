-- Erase, slot by slot: what the loop of blanked slots leaves, and what an accepted erase has tested. Records of either layout.
use Prim.Native.Nat.{ℕ, zero, suc, ◌+◌, ◌*◌, ◌≤◌, ◌<◌}
use Rattle.std.proofs.Common.{arith, sym, ◌∙◌}
use Rattle.std.proofs.Math.Numerals.{add-one}
use Rattle.std.specs.Prelude.{◌≡◌, true, get_or, take}
use Rattle.std.proofs.Math.Path.{refl}
use mathlib.Core.List.{List, [], ◌∷◌}
use Rattle.std.proofs.Math.ListN.{length}
use Rattle.std.proofs.Math.Seq.{take-length}
use Rattle.std.proofs.lemmas.List.{get_or_default}
use Rattle.bounded.specs.Limits.{Widths}
use Rattle.bounded.specs.PartsLaws.{part_inside}
use Rattle.outcome.specs.Outcome.{settled}
use Rattle.outcome.specs.OutcomeLaws.{held}
use Rattle.outcome.specs.Chain.{both_pass}
use Rattle.sizes.specs.declared.Layout.{Layout}
use Rattle.sizes.specs.declared.Layout.TheVariants.{FiveWords, FourWords}
use Rattle.sizes.specs.declared.Sizes.{Sizes}
use Rattle.sizes.specs.Sizes.{stride_of, list_ok}
use Rattle.sizes.specs.Lists.{list_facts}
use Rattle.record.specs.Flash.{Flash, Step, apply_in, apply_all_in}
use Rattle.record.specs.FlashLaws.{SizedIn}
use Rattle.table.proofs.Inside.{slot_inside}
use Rattle.rules.specs.Volume.{Volume, volume_fits_in}
use Rattle.rules.specs.Erase.{erase_steps, erase_outcome}
use Rattle.rules.specs.SimpleCalls.{simple_erase_outcome}
use Rattle.rules.specs.laws.Volume.{FitsIn}
use Rattle.rules.proofs.laws.Volume.{fits_in_facts}
use Rattle.rules.specs.laws.Families.{erase_answer_in, erase_outcome_in}
use Rattle.rules.specs.laws.Chains.{judged_in, erase_own}
use Rattle.rules.proofs.laws.Chains.{judged_passed, erase_chain}

-- the bytes of all slots of a volume that fits are in its contents
pub contents_span : (layout : Layout) (widths : Widths) (sizes : Sizes) (v : Volume) → volume_fits_in layout widths sizes v ≡ true → sizes.width * sizes.slots ≤ length v.flash.contents
contents_span layout widths sizes v e = let s = (fits_in_facts layout widths sizes v e).flash_sized.contents_sized in omega arith

-- every listed slot is in the words and in the contents
pub record ListedIn (layout : Layout) (w : ℕ) (words contents list : List ℕ) : Type 0 where
  pub words_in : (i : ℕ) → i < length list → stride_of layout * get_or list i 0 + stride_of layout ≤ length words
  pub contents_in : (i : ℕ) → i < length list → w * get_or list i 0 + w ≤ length contents

-- as those of a list of slots below S are, of a flash of S slots
pub listed_in : (layout : Layout) (w S : ℕ) (f : Flash) (list : List ℕ) → SizedIn layout w S f → ((i : ℕ) → i < length list → get_or list i 0 < S) → ListedIn layout w f.words f.contents list
listed_in layout w S f list size below = record {
  words_in = λ i h. let e = size.words_sized in slot_inside layout S (get_or list i 0) f.words (omega arith) (below i h);
  contents_in = λ i h. let e = size.contents_sized in let k = part_inside w S (get_or list i 0) (below i h) in omega arith;
}

-- ---- a list of any numbers, and the slots that they convert to

pub record Converts {T : Type 0} (gives : T → ℕ → Type 0) (list : List T) (slots : List ℕ) : Type 0 where
  pub as_many : length slots ≡ length list
  pub each : (i : ℕ) (entry : T) (slot : ℕ) → i < length list → entry ≡ get_or list i entry → gives entry slot → slot ≡ get_or slots i 0

-- numbers that convert to themselves
pub converts_same : (list : List ℕ) → Converts (λ entry slot. slot ≡ entry) list list
converts_same list = record { as_many = refl; each = λ i entry slot h e q. q ∙ e ∙ get_or_default list i entry 0 h }

-- ---- the first i listed slots blanked

unfoldable pub blanked : Layout → ℕ → Flash → List ℕ → ℕ → Flash
blanked layout w f list i = apply_all_in layout w f (erase_steps (take i list))

module _ (layout : Layout) (w : ℕ) where
  pub blanked_none : (f : Flash) (list : List ℕ) → f ≡ blanked layout w f list 0
  unfolding blanked erase_steps apply_all_in
  blanked_none f list = refl

  pub blanked_all : (f : Flash) (list : List ℕ) → blanked layout w f list (length list) ≡ apply_all_in layout w f (erase_steps list)
  unfolding blanked
  blanked_all f list = rw take-length

  pub blanked_more : (f : Flash) (list : List ℕ) (i : ℕ) → i < length list → apply_in layout w (blanked layout w f list i) (Step.Blank (get_or list i 0)) ≡ blanked layout w f list (i + 1)
  unfolding blanked erase_steps apply_all_in
  blanked_more f list i h = rw add-one (step f list i h)
    where
      step : (f : Flash) (list : List ℕ) (i : ℕ) → i < length list → apply_in layout w (blanked layout w f list i) (Step.Blank (get_or list i 0)) ≡ blanked layout w f list (suc i)
      step f [] i h = absurd (omega arith)
      step f (k ∷ list) zero h = refl
      step f (k ∷ list) (suc i) h = step (apply_in layout w f (Step.Blank k)) list i (omega arith)

-- ---- an accepted erase

module _ (layout : Layout) (widths : Widths) (sizes : Sizes) (v : Volume) (list : List ℕ) where
  -- what it has tested
  pub accepted_tests : erase_answer_in layout widths sizes v list ≡ 0 → FitsIn layout widths sizes v × (list_ok sizes.slots list ≡ true)
  unfolding erase_own
  accepted_tests e =
      let parts = both_pass (judged_in layout (volume_fits_in layout widths sizes v) sizes.pages sizes.slots v.flash.words v.state) (erase_own layout sizes v list) (sym (erase_chain layout widths sizes v list) ∙ e) in
      let j = judged_passed layout (volume_fits_in layout widths sizes v) sizes.pages sizes.slots v.flash.words v.state parts.0 in
      (fits_in_facts layout widths sizes v j.fitting, (held (list_ok sizes.slots list) _ _ parts.1).0)

  pub accepted_listed : erase_answer_in layout widths sizes v list ≡ 0 → ListedIn layout sizes.width v.flash.words v.flash.contents list
  accepted_listed e =
      let t = accepted_tests e in
      listed_in layout sizes.width sizes.slots v.flash list t.0.flash_sized (list_facts sizes.slots list t.1).in_range_lem

-- what an erase of either layout settles
pub outcome_in :
    (layout : Layout) (widths : Widths) (sizes : Sizes) (v : Volume) (list : List ℕ)
    → settled (erase_answer_in layout widths sizes v list) 0 0 v.flash (apply_all_in layout sizes.width v.flash (erase_steps list))
    ≡ erase_outcome_in layout widths sizes v list
unfolding erase_outcome simple_erase_outcome
outcome_in FiveWords widths sizes v list = refl
outcome_in FourWords widths sizes v list = refl

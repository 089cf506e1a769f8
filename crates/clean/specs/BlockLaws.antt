-- A block's slots: their marks, and their blanking one by one.
use Rattle.std.specs.Prelude.{ℕ, ◌+◌, ◌-◌, ◌≤◌, ◌<◌, ◌≡◌, Bool, true, false, length, get_or, replicate}
use Rattle.std.proofs.Common.{rules, ◌∙◌}
use Rattle.std.proofs.Math.Path.{sym, ap, fun_ext}
use mathlib.Core.List.{List, [], ◌∷◌, map-append}
use Rattle.std.proofs.lemmas.List.{places}
use borrow.Rule.Slice.PartMut.{put_mid, mid_of}
use Rattle.bounded.specs.Choice.{on_lt}
use Rattle.bounded.specs.Below.{list_below}
use Rattle.bounded.specs.Passing.{list_more}
use Rattle.bounded.specs.Members.{list_none}
use Rattle.bounded.specs.Noted.{list_goes_on}
use Rattle.sizes.specs.declared.Block.{Block}
use Rattle.sizes.specs.declared.Layout.TheVariants.{FiveWords}
use Rattle.sizes.specs.Blocks.{in_block}
use Rattle.sizes.specs.BlocksLaws.{BlockIn}
use Rattle.sizes.proofs.BlocksLaws.{inside_block, before_block, behind_block}
use Rattle.record.specs.Flash.{Flash, Step, apply, apply_all_in, apply_all}
use Rattle.record.specs.FlashLaws.{apply_append}
use Rattle.rules.specs.Erase.{erase_steps}
use Rattle.judge.specs.Marked.{marked}

-- ---- the marks

-- no mark, and marks written over them from a to before b: what stands at j
module _ (a b n j : ℕ) (h : a ≤ b) (l : b ≤ n) where
  abbrev filled : List Bool
  filled = put_mid a (b - a) (replicate n false) (replicate (b - a) true)

  marked_inside : a ≤ j → j < b → get_or filled j false ≡ true
  marked_inside p q = search (rules, places)

  none_before : j < a → get_or filled j false ≡ false
  none_before p = search (rules, places)

  none_behind : b ≤ j → get_or filled j false ≡ false
  none_behind p = search (rules, places)

-- no mark, and those of the block's slots written over
pub filled_marks :
    (block : Block) (n : ℕ) {part : List Bool}
    → BlockIn n block
    → part ≡ replicate (length {A = Bool} (mid_of block.first (block.end - block.first) (replicate n false))) true
    → marked (put_mid block.first (block.end - block.first) (replicate n false) part) ≡ in_block block
unfolding marked
filled_marks block n b f = let h = b.ordered in
    let l = b.inside in
    let m : length {A = Bool} (mid_of block.first (block.end - block.first) (replicate n false)) ≡ block.end - block.first = search (rules, places) in
    rw (f, m)
    (fun_ext (λ j. on_lt j block.first
    (λ p. none_before block.first block.end n j h l p ∙ sym (before_block block j p))
    (λ p. on_lt j block.end
    (λ q. marked_inside block.first block.end n j h l p q ∙ sym (inside_block block j p q))
    (λ q. none_behind block.first block.end n j h l q ∙ sym (behind_block block j h q)))))

-- ---- blanked one by one

-- the block's slots below k blanked
unfoldable pub blanked_up_to : ℕ → Flash → Block → ℕ → Flash
blanked_up_to w f block k = apply_all w f (erase_steps (list_below k (in_block block)))

module _ (w : ℕ) (f : Flash) (block : Block) where
  pub none_blanked : f ≡ blanked_up_to w f block block.first
  unfolding blanked_up_to erase_steps apply_all_in
  none_blanked = sym (ap (λ (l : List ℕ). apply_all w f (erase_steps l)) (list_none (in_block block) block.first (λ k h. before_block block k h)))

  pub one_blanked : (k : ℕ) → in_block block k ≡ true → apply w (blanked_up_to w f block k) (Step.Blank k) ≡ blanked_up_to w f block (k + 1)
  unfolding blanked_up_to erase_steps apply_all_in
  one_blanked k e =
      sym (apply_append FiveWords w f (erase_steps (list_below k (in_block block))) (Step.Blank k ∷ []))
      ∙ ap (apply_all w f) (sym (map-append Step.Blank (list_below k (in_block block)) (k ∷ [])))
      ∙ ap (λ (l : List ℕ). apply_all w f (erase_steps l)) (sym (list_more (in_block block) k e))

  pub all_blanked : (S : ℕ) → BlockIn S block → blanked_up_to w f block block.end ≡ apply_all w f (erase_steps (list_below S (in_block block)))
  unfolding blanked_up_to
  all_blanked S b =
      ap (λ (l : List ℕ). apply_all w f (erase_steps l))
      (sym (list_goes_on (in_block block) block.end S b.inside (λ k h l. behind_block block k b.ordered h)))

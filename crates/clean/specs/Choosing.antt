-- The choice of the records to copy as the code makes it: what one slot of the block and the marks settle.
use Rattle.std.specs.Prelude.{ℕ, ◌≡◌, List, Bool, true, false, not, ◌&&◌}
use Rattle.std.proofs.Common.{ap, ap₂, ◌∙◌}
use Rattle.bounded.specs.Below.{some_below}
use Rattle.sizes.specs.declared.Block.{Block}
use Rattle.sizes.specs.Blocks.{in_block}
use Rattle.sizes.specs.BlocksLaws.{BlockIn}
use Rattle.record.specs.Slot.{Slot}
use Rattle.record.specs.Slot.{slot_at, is_blank}
use Rattle.record.specs.Flash.{flash}
use Rattle.state.specs.declared.PageState.{PageState}
use Rattle.state.specs.State.{state_at}
use Rattle.twins.specs.Twins.{twins}
use Rattle.rules.specs.Permission.{Scene, scene, scene_of, may_erase_from}
use Rattle.rules.specs.Found.{by_found}
use Rattle.upkeep.specs.Clean.{is_copied}
use Rattle.rules.proofs.laws.Found.{found_scene}
use Rattle.permit.specs.Shown.{AllFound}
use Rattle.judge.specs.Marked.{marked}
use Rattle.judge.specs.declared.Evidence.{Evidence}
use Rattle.judge.specs.Evidence.{volume_of, shown}

-- ---- one slot of the block

module _ (S : ℕ) (t : ℕ → Slot) (st : ℕ → PageState) (twin : ℕ → ℕ → Bool) (inside : ℕ → Bool) (k : ℕ) where
  pub outside_stays : inside k ≡ false → is_copied (scene S t st twin) inside k ≡ false
  unfolding is_copied
  outside_stays e = rw e

  module _ (i : inside k ≡ true) where
    pub blank_stays : is_blank (t k) ≡ true → is_copied (scene S t st twin) inside k ≡ false
    unfolding is_copied
    blank_stays e = rw (i, e)

    pub erasable_stays : is_blank (t k) ≡ false → may_erase_from (scene S t st twin) inside k ≡ true → is_copied (scene S t st twin) inside k ≡ false
    unfolding is_copied
    erasable_stays e m = rw (i, e, m)

    pub lowest_copied : is_blank (t k) ≡ false → may_erase_from (scene S t st twin) inside k ≡ false → is_copied (scene S t st twin) inside k ≡ not (some_below k (λ j. inside j && twin j k))
    unfolding is_copied
    lowest_copied e m = rw (i, e, m)

-- ---- what choosing rests on

-- the slots are judged by the exposed records and with the block's slots marked
pub record Chosen (e : Evidence) (marks : List Bool) (block : Block) : Type 0 where
  pub all_found : AllFound e.table
  pub block_marked : marked marks ≡ in_block block
  pub block_in : BlockIn e.table.sizes.slots block

-- which is the rule's permission, "the whole block being listed"
pub judged_so :
    {e : Evidence} {marks : List Bool} {block : Block} → Chosen e marks block → (k : ℕ)
    → may_erase_from (shown e) (marked marks) k ≡ may_erase_from (scene_of e.table.sizes (volume_of e)) (in_block block) k
judged_so {e} {block = block} c k =
    ap₂ (λ (l : List ℕ) (f : ℕ → Bool). may_erase_from (by_found (scene_of e.table.sizes (volume_of e)) l) f k) c.all_found c.block_marked
    ∙ ap (λ (s : Scene). may_erase_from s (in_block block) k)
    (found_scene e.table.sizes.slots (slot_at e.table.words.now) (state_at e.table.state.now) (twins e.table.sizes.width (flash e.table.words.now e.contents.now)))

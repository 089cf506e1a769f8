-- What the tests of a cleaning say, what its two loops leave together, and its answer.
use Rattle.std.specs.Prelude.{ℕ, ◌*◌, ◌≤◌, ◌<◌, ◌≡◌, refl, length}
use Rattle.std.proofs.Math.Path.{sym, ap, ap₂}
use Rattle.std.proofs.Common.{◌∙◌, subst}
use mathlib.Core.List.{List}
use borrow.Author.Tests.{ltb-true}
use Rattle.bounded.specs.Limits.{Widths, two_widths}
use Rattle.bounded.specs.Below.{list_below}
use Rattle.outcome.specs.Outcome.{◌⇒◌otherwise◌}
use Rattle.outcome.specs.Chain.{first_refuses, first_passes}
use Rattle.sizes.specs.declared.Block.{Block}
use Rattle.sizes.specs.declared.Layout.TheVariants.{FiveWords}
use Rattle.sizes.specs.declared.Sizes.{Sizes}
use Rattle.sizes.specs.Blocks.{NamedBlock, block_ok, block_at, in_block}
use Rattle.sizes.specs.BlocksLaws.{BlockIn}
use Rattle.sizes.proofs.BlocksLaws.{named_inside}
use Rattle.record.specs.Flash.{Flash, flash, apply_all}
use Rattle.record.specs.FlashLaws.{apply_append}
use Rattle.rules.specs.Volume.{Volume, volume}
use Rattle.rules.specs.Erase.{erase_steps}
use Rattle.upkeep.specs.Clean.{copy_steps, clean_from, clean_to, clean_copies, clean_blanks, clean_steps, clean_answer, too_few_blank}
use Rattle.rules.specs.laws.Chains.{block_judged}
use Rattle.rules.proofs.laws.Chains.{block_judged_passed, volume_spans}
use Rattle.upkeep.proofs.laws.Tests.{clean_own, clean_chain}
use Rattle.upkeep.specs.laws.Copies.{Ready}
use Rattle.upkeep.proofs.laws.Clean.{ready}
use Rattle.judge.specs.Judgeable.{SoundFlash, sound_flash}
use Rattle.clean.specs.Copying.{Copying, copying_begins}

-- ---- a volume and a block of it

module _ (sizes : Sizes) (words contents state : List ℕ) (block : Block) where
  -- the volume fits and is sound, and the block is one of its
  pub record Cleanable : Type 0 where
    pub flash_sound : SoundFlash sizes words contents
    pub pages_in_lem : 4 * sizes.pages ≤ length state
    pub block_in : BlockIn sizes.slots block

  abbrev v : Volume
  v = volume words contents state

  module _ {from to : List ℕ} (is_from : from ≡ clean_from sizes v block) (is_to : to ≡ clean_to sizes v block) where
    -- the copies may be done
    pub copies_begin : Cleanable → length from ≤ length to → Copying sizes.width sizes.slots (flash words contents) from to (flash words contents) from to
    copies_begin c room =
        copying_begins sizes.width sizes.slots (flash words contents) from to c.flash_sound.flash_sized
        (subst (λ (l : List ℕ). Ready' c l to) (sym is_from) (subst (Ready' c (clean_from sizes v block)) (sym is_to) (ready sizes v block c.flash_sound.flash_sized c.flash_sound.linkable.sound)))
        room
      where
        Ready' : Cleanable → List ℕ → List ℕ → Type 0
        Ready' c l m = Ready sizes.width sizes.slots (flash words contents) c.flash_sound.flash_sized (flash words contents) 0 l m

    -- and, behind them, the blankings: these are the steps
    pub steps_done :
        {g h : Flash}
        → g ≡ apply_all sizes.width (flash words contents) (copy_steps sizes.width (flash words contents) from to)
        → h ≡ apply_all sizes.width g (erase_steps (list_below sizes.slots (in_block block)))
        → h ≡ apply_all sizes.width (flash words contents) (clean_steps sizes v block)
    unfolding clean_steps clean_copies clean_blanks
    steps_done {g} {h} copies blanks =
        blanks
        ∙ ap (λ (x : Flash). apply_all sizes.width x (clean_blanks sizes v block))
        (copies ∙ ap₂ (λ (l m : List ℕ). apply_all sizes.width (flash words contents) (copy_steps sizes.width (flash words contents) l m)) is_from is_to)
        ∙ sym (apply_append FiveWords sizes.width (flash words contents) (clean_copies sizes v block) (clean_blanks sizes v block))

-- ---- the answer

-- "15, too few blank slots outside"
unfoldable pub room_answer : Sizes → Volume → Block → ℕ
room_answer sizes v block = too_few_blank sizes v block ⇒ 15 otherwise 0

module _ (widths : Widths) (sizes : Sizes) (v : Volume) (block : NamedBlock) where
  pub judged_refuses : {n : ℕ} → n ≡ block_judged widths sizes v block → ¬ (n ≡ 0) → n ≡ clean_answer widths sizes v block
  judged_refuses {n} e h = first_refuses n _ e h ∙ sym (clean_chain widths sizes v block)

  -- where the conditions that the calls on a block share do not hold
  module _ (none : 0 ≡ block_judged widths sizes v block) where
    pub named_below : block.number < length block.starts
    unfolding block_ok
    named_below = ltb-true block.number (length block.starts) (block_judged_passed widths sizes v block (sym none)).named

    -- the room is all that is left to judge
    pub room_is_answer : {slots : Block} → slots ≡ block_at sizes.slots block → room_answer sizes v slots ≡ clean_answer widths sizes v block
    unfolding room_answer clean_own
    room_is_answer e = ap (room_answer sizes v) e ∙ first_passes 0 _ none refl refl ∙ sym (clean_chain widths sizes v block)

-- at the two widths there are, the block may be cleaned
pub cleanable :
    (sizes : Sizes) (words contents state : List ℕ) (block : NamedBlock) {slots : Block}
    → 0 ≡ block_judged two_widths sizes (volume words contents state) block
    → slots ≡ block_at sizes.slots block
    → Cleanable sizes words contents state slots
cleanable sizes words contents state block none e =
    let t = block_judged_passed two_widths sizes (volume words contents state) block (sym none) in
    record {
      flash_sound = sound_flash sizes words contents state t.fitting t.table;
      pages_in_lem = (volume_spans FiveWords two_widths sizes (volume words contents state) t.fitting).pages_in_lem;
      block_in = subst (BlockIn sizes.slots) (sym e) (named_inside sizes.slots block t.starts_sound t.named);
    }

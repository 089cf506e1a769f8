-- What is shown of cleaning, document 02, wish 1, stated: what an accepted cleaning leaves, which slots its copies fill, that it may be done again, and how many blank slots are enough for it.
use Rattle.std.specs.Prelude.{ℕ, ◌<◌, ◌≤◌, ◌≡◌, ◌⊎◌, List, map, true, false, not, ◌&&◌, length, take, replicate}
use Rattle.bounded.specs.Limits.{Widths}
use Rattle.bounded.specs.Below.{list_below}
use Rattle.sizes.specs.declared.Block.{Block}
use Rattle.sizes.specs.declared.Sizes.{Sizes}
use Rattle.sizes.specs.Blocks.{starts_ok, NamedBlock, block_ok, block_at, in_block}
use Rattle.record.specs.declared.Record.{Record}
use Rattle.std.specs.Prelude.{None, Some}
use Rattle.record.specs.Slot.{slot_at, bytes_at, is_blank}
use Rattle.record.specs.Flash.{Flash, Step}
use Rattle.state.specs.State.{state_sound}
use Rattle.table.specs.Table.{table_sound}
use Rattle.rules.specs.Volume.{Volume, volume_fits, slots_of, pages_of}
use Rattle.rules.specs.Permission.{may_erase, scene_of}
use Rattle.upkeep.specs.Clean.{record_in, clean_from, clean_to, clean_copies, clean_answer, clean_outcome}

-- slot k of the flash f holds the record, with the contents that slot j of the flash g has
abbrev pub HoldsAt : Sizes → Flash → ℕ → Record → Flash → ℕ → Type 0
HoldsAt sizes f k r g j = (slot_at f.words k ≡ Some r) × (bytes_at sizes.width f.contents k ≡ bytes_at sizes.width g.contents j)

-- the flash `after` a cleaning of the block, of a volume
pub record Leaves (sizes : Sizes) (v : Volume) (block : Block) (after : Flash) : Type 0 where
  -- "the block's slots are blanked"
  pub block_blank : (k : ℕ) → k < sizes.slots → in_block block k ≡ true → (slot_at after.words k ≡ None) × (bytes_at sizes.width after.contents k ≡ replicate sizes.width 255)
  -- every other slot that held a record is as it was
  pub others_stay : (k : ℕ) (r : Record) → k < sizes.slots → in_block block k ≡ false → slots_of v k ≡ Some r → HoldsAt sizes after k r v.flash k
  -- every other slot that is blank then is as it was
  pub blank_stays :
      (k : ℕ)
      → k < sizes.slots
      → in_block block k ≡ false
      → slot_at after.words k ≡ None
      → (slots_of v k ≡ None) × (bytes_at sizes.width after.contents k ≡ bytes_at sizes.width v.flash.contents k)
  -- a record that is there then was there, with its contents
  pub none_new : (k : ℕ) (r : Record) → k < sizes.slots → slot_at after.words k ≡ Some r → (j : ℕ) × (j < sizes.slots) × HoldsAt sizes v.flash j r after k
  -- a record that was there is there then, with its contents, outside the block, or the old rule allows to erase it
  pub stays_or_erasable :
      (k : ℕ) (r : Record)
      → k < sizes.slots
      → slots_of v k ≡ Some r
      → ((j : ℕ) × (j < sizes.slots) × (in_block block j ≡ false) × HoldsAt sizes after j r v.flash k) ⊎ (may_erase (scene_of sizes v) k ≡ true)

-- after every accepted cleaning, of any volume, by any table of blocks and with any widths allowed
abbrev pub Cleaned : Type 0
Cleaned =
    (widths : Widths) (sizes : Sizes) (v : Volume) (block : NamedBlock)
    → clean_answer widths sizes v block ≡ 0
    → Leaves sizes v (block_at sizes.slots block) (clean_outcome widths sizes v block).left

-- ---- what a driver programs

-- the slots that are blank before and not after, rising
unfoldable pub filled_slots : ℕ → (before after : Flash) → List ℕ
filled_slots S before after = list_below S (λ k. is_blank (slot_at before.words k) && not (is_blank (slot_at after.words k)))

-- slot k stored as the flash shows it
unfoldable pub stored_as : ℕ → Flash → ℕ → Step
stored_as w f k = Step.Store k (record_in (slot_at f.words k)) (bytes_at w f.contents k)

-- the copies of a cleaning of the block, of a volume, and the flash `after` it
pub record Fills (sizes : Sizes) (v : Volume) (block : Block) (after : Flash) : Type 0 where
  -- the slots that they go to are those that were blank and no longer are, rising
  pub targets_filled : take (length (clean_from sizes v block)) (clean_to sizes v block) ≡ filled_slots sizes.slots v.flash after
  -- and what they store, in their order, is what these slots then hold, from the lowest up
  pub copies_shown : clean_copies sizes v block ≡ map (stored_as sizes.width after) (filled_slots sizes.slots v.flash after)

-- Of every accepted cleaning, of any volume, by any table of blocks and with any widths allowed: the slots that it filled are those that were blank and no longer are, from the lowest up, each as it then is.
abbrev pub CleanFills : Type 0
CleanFills =
    (widths : Widths) (sizes : Sizes) (v : Volume) (block : NamedBlock)
    → clean_answer widths sizes v block ≡ 0
    → Fills sizes v (block_at sizes.slots block) (clean_outcome widths sizes v block).left

-- ---- again, and with how many blank slots

-- cleaning the same slots again, or some of them, by the same table or another, is accepted and alters nothing
abbrev pub CleanedAgain : Type 0
CleanedAgain =
    (widths : Widths) (sizes : Sizes) (v : Volume) (block again : NamedBlock)
    → clean_answer widths sizes v block ≡ 0
    → starts_ok sizes.slots again.starts ≡ true
    → block_ok again ≡ true
    → ((k : ℕ) → in_block (block_at sizes.slots again) k ≡ true → in_block (block_at sizes.slots block) k ≡ true)
    → clean_outcome widths sizes (record { flash = (clean_outcome widths sizes v block).left; state = v.state }) again
    ≡ record { answer = 0; second = 0; left = (clean_outcome widths sizes v block).left }

-- Where conditions 1, 17, 2, 5 and 6 do not hold, a block can be cleaned if the volume has as many blank slots as the block has slots, wherever they are.
abbrev pub CleanAccepted : Type 0
CleanAccepted =
    (widths : Widths) (sizes : Sizes) (v : Volume) (block : NamedBlock)
    → volume_fits widths sizes v ≡ true
    → starts_ok sizes.slots block.starts ≡ true
    → table_sound sizes.pages sizes.slots (slots_of v) ≡ true
    → state_sound sizes.pages (pages_of v) ≡ true
    → block_ok block ≡ true
    → length (list_below sizes.slots (in_block (block_at sizes.slots block))) ≤ length (list_below sizes.slots (λ k. is_blank (slots_of v k)))
    → clean_answer widths sizes v block ≡ 0

-- The call clean, document 02, wish 1, over any block of slots: which records are copied and where to, the single steps, and its outcome.
use Rattle.std.specs.Prelude.{ℕ, List, [], ◌∷◌, ◌++◌, map, Bool, not, ◌&&◌, ltb, length}
use Rattle.bounded.specs.Limits.{Widths}
use Rattle.bounded.specs.Below.{some_below, list_below}
use Rattle.outcome.specs.Outcome.{◌⇒◌otherwise◌, Outcome, settled}
use Rattle.sizes.specs.declared.Block.{Block}
use Rattle.sizes.specs.declared.Sizes.{Sizes}
use Rattle.sizes.specs.Blocks.{starts_ok, NamedBlock, block_ok, block_at, in_block}
use Rattle.record.specs.declared.Record.{Record}
use Rattle.record.specs.Slot.{Slot}
use Rattle.std.specs.Prelude.{None, Some}
use Rattle.record.specs.Slot.{slot_at, bytes_at, is_blank, blank_record}
use Rattle.record.specs.Flash.{Flash, Step, apply_all}
use Rattle.state.specs.State.{state_sound}
use Rattle.table.specs.Table.{table_sound}
use Rattle.rules.specs.Volume.{Volume, volume_fits, slots_of, pages_of}
use Rattle.rules.specs.Permission.{may_erase_from, Scene, scene_of}
use Rattle.rules.specs.Erase.{erase_steps}

-- ---- what is copied, and where to; `inside k` says that slot k is in the block

-- "Every record there that may not be erased, the whole block being listed, is copied once (of twins within the block only the lowest)"
unfoldable pub is_copied : Scene → (inside : ℕ → Bool) → ℕ → Bool
is_copied s inside k =
    inside k
    && (not (is_blank (s.table k))
    && (not (may_erase_from s inside k)
    && not (some_below k (λ j. inside j && s.twin j k))))

-- the slots whose records are copied, "rising"
unfoldable pub copied_slots : Scene → (inside : ℕ → Bool) → List ℕ
copied_slots s inside = list_below s.slots (is_copied s inside)

-- the "blank slots outside", the lowest first
unfoldable pub blank_outside : ℕ → (ℕ → Slot) → (inside : ℕ → Bool) → List ℕ
blank_outside S t inside = list_below S (λ k. is_blank (t k) && not (inside k))

-- ---- the single steps, fixed "from the table before the call"

-- the record in a slot
unfoldable pub record_in : Slot → Record
record_in None = blank_record
record_in (Some r) = r

-- slot k's record "with contents" to slot j
unfoldable pub copy_step : ℕ → Flash → (k j : ℕ) → Step
copy_step w f k j = Step.Store j (record_in (slot_at f.words k)) (bytes_at w f.contents k)

-- "the copies in their order": the first to the first, and so on (there are as many slots to copy to: 15)
unfoldable pub copy_steps : ℕ → Flash → (from to : List ℕ) → List Step
copy_steps w f [] to = []
copy_steps w f (k ∷ from) [] = []
copy_steps w f (k ∷ from) (j ∷ to) = copy_step w f k j ∷ copy_steps w f from to

module _ (sizes : Sizes) (v : Volume) (block : Block) where
  -- the slots to copy, and those to copy to
  unfoldable pub clean_from : List ℕ
  clean_from = copied_slots (scene_of sizes v) (in_block block)

  unfoldable pub clean_to : List ℕ
  clean_to = blank_outside sizes.slots (slots_of v) (in_block block)

  unfoldable pub clean_copies : List Step
  clean_copies = copy_steps sizes.width v.flash clean_from clean_to

  -- "too few blank slots outside"
  unfoldable pub too_few_blank : Bool
  too_few_blank = ltb (length clean_to) (length clean_from)

  -- "and then the block's slots are blanked", every one
  unfoldable pub clean_blanks : List Step
  clean_blanks = erase_steps (list_below sizes.slots (in_block block))

-- "its list of single steps … (the copies in their order, then the blankings)"
unfoldable pub clean_steps : Sizes → Volume → Block → List Step
clean_steps sizes v block = clean_copies sizes v block ++ clean_blanks sizes v block

-- Where a cut may fall: "A cut leaves the flash as it was or as after any of these steps, or, once all copies stand, with any part of the block blanked." Each copy is a
-- stage by itself; all blankings together are one.
unfoldable pub clean_stages : Sizes → Volume → Block → List (List Step)
clean_stages sizes v block = map (λ s. s ∷ []) (clean_copies sizes v block) ++ (clean_blanks sizes v block ∷ [])

-- ---- the call

-- "Refused: 15, too few blank slots outside …; 1, 2 and 5 as for erase"; wish 8: "Block numbers then run below its length; others are 6", and "17, a table that breaks these
-- rules, …, after 1", checked "again by every call that takes it".
unfoldable pub clean_answer : Widths → Sizes → Volume → NamedBlock → ℕ
clean_answer widths sizes v block =
    not (volume_fits widths sizes v) ⇒ 1 otherwise
    not (starts_ok sizes.slots block.starts) ⇒ 17 otherwise
    not (table_sound sizes.pages sizes.slots (slots_of v)) ⇒ 2 otherwise
    not (state_sound sizes.pages (pages_of v)) ⇒ 5 otherwise
    not (block_ok block) ⇒ 6 otherwise
    too_few_blank sizes v (block_at sizes.slots block) ⇒ 15 otherwise
    0

-- It alters the flash alone, by these steps: "nothing else in cleaning alters the flash, and the sheet stays".
unfoldable pub clean_outcome : Widths → Sizes → Volume → NamedBlock → Outcome Flash
clean_outcome widths sizes v block =
    settled (clean_answer widths sizes v block) 0 0 v.flash (apply_all sizes.width v.flash (clean_steps sizes v (block_at sizes.slots block)))

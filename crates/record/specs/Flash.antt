-- The flash, and the single steps that alter it.
use Rattle.std.specs.Prelude.{ℕ, List, [], ◌∷◌, replicate}
use Rattle.bounded.specs.Parts.{put_part}
use Rattle.sizes.specs.declared.Layout.{Layout}
use Rattle.sizes.specs.declared.Layout.TheVariants.{FiveWords}
use Rattle.sizes.specs.Sizes.{stride_of}
use Rattle.record.specs.declared.Record.{Record}
use Rattle.record.specs.Slot.{encoded, blank_record}

-- the slot table's words and the contents
pub record Flash : Type 0 where
  pub words : List ℕ
  pub contents : List ℕ

-- the flash of these two buffers
abbrev pub flash : (words contents : List ℕ) → Flash
flash words contents = record { words = words; contents = contents }

-- One step: slot k is stored whole, words and bytes, or blanked.
pub data Step : Type 0 where
  Store : ℕ → Record → List ℕ → Step
  Blank : ℕ → Step

-- slot k with this record's words and these bytes, for contents of w bytes a slot
unfoldable pub put_slot_in : Layout → ℕ → Flash → ℕ → Record → List ℕ → Flash
put_slot_in layout w f k r bytes = record { words = put_part (stride_of layout) k (encoded layout r) f.words; contents = put_part w k bytes f.contents }

-- one step done; a blanked slot is "blank with bytes 255"
unfoldable pub apply_in : Layout → ℕ → Flash → Step → Flash
apply_in layout w f (Store k r bytes) = put_slot_in layout w f k r bytes
apply_in layout w f (Blank k) = put_slot_in layout w f k blank_record (replicate w 255)

-- a list of steps, done in its order
unfoldable pub apply_all_in : Layout → ℕ → Flash → List Step → Flash
apply_all_in layout w f [] = f
apply_all_in layout w f (s ∷ steps) = apply_all_in layout w (apply_in layout w f s) steps

-- the same of five words
abbrev pub put_slot : ℕ → Flash → ℕ → Record → List ℕ → Flash
put_slot w f k r bytes = put_slot_in FiveWords w f k r bytes

abbrev pub apply : ℕ → Flash → Step → Flash
apply w f s = apply_in FiveWords w f s

abbrev pub apply_all : ℕ → Flash → List Step → Flash
apply_all w f steps = apply_all_in FiveWords w f steps

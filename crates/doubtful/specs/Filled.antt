-- The words of a filling.
use Rattle.std.specs.Prelude.{ℕ, List, [], ◌∷◌}
use Rattle.bounded.specs.Parts.{put_part}
use Rattle.sizes.specs.declared.Layout.TheVariants.{FiveWords}
use Rattle.record.specs.Slot.{encoded, blank_record}

-- the words with these slots blank
unfoldable pub blanked_words : (words : List ℕ) → (absent : List ℕ) → List ℕ
blanked_words words [] = words
blanked_words words (k ∷ absent) = blanked_words (put_part 5 k (encoded FiveWords blank_record) words) absent

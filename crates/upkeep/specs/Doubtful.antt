-- The call doubtful, document 02, wish 11: the fillings of a volume some of whose slots are in doubt, what their recoveries say of each page, and its outcome.
use Rattle.std.specs.Prelude.{ℕ, ◌*◌, ◌/◌, ◌%◌, ◌^◌, List, [], ◌∷◌, Bool, not, cond, ◌&&◌, ltb, eqb, length, get_or, replicate}
use Rattle.bounded.specs.Limits.{no_number, Widths}
use Rattle.bounded.specs.Below.{all_below, max_below, min_below, list_below}
use Rattle.bounded.specs.Parts.{join_parts}
use Rattle.outcome.specs.Outcome.{◌⇒◌otherwise◌, Outcome, settled}
use Rattle.sizes.specs.declared.Sizes.{Sizes}
use Rattle.sizes.specs.Sizes.{sizes_ok, words_fit, contents_fit, in_range, no_repeats}
use Rattle.record.specs.Slot.{slot_at, is_blank}
use Rattle.record.specs.Flash.{Flash, apply_all}
use Rattle.state.specs.State.{state_at}
use Rattle.table.specs.Table.{table_sound}
use Rattle.rules.specs.Erase.{erase_steps}
use Rattle.rules.specs.Recover.{recover_outcome}

-- "more than 8 doubtful slots"
abbrev pub max_doubtful : ℕ
max_doubtful = 8

-- ---- fillings

-- "a list of slots that may be there or blank": a filling is a choice of those that are blank. With d slots listed there are 2^d, numbered from 0; filling m chooses the slots whose digits in m, in base 2, are 1, the first listed having the last digit.
unfoldable pub absent_in : (slots : List ℕ) → (m : ℕ) → List ℕ
absent_in [] m = []
absent_in (k ∷ slots) m = cond (eqb (m % 2) 0) (absent_in slots (m / 2)) (k ∷ absent_in slots (m / 2))

-- how many there are
unfoldable pub fillings : List ℕ → ℕ
fillings slots = 2 ^ length slots

-- the flash with these slots blank
unfoldable pub filled_with : (w : ℕ) → Flash → (absent : List ℕ) → Flash
filled_with w f absent = apply_all w f (erase_steps absent)

-- recovery of a flash, which sees of the sheet its length alone
unfoldable pub recovery_of : Widths → Sizes → Flash → Outcome (List ℕ)
recovery_of widths sizes f = recover_outcome widths sizes (record { flash = f; state = replicate (4 * sizes.pages) 0 })

module _ (widths : Widths) (sizes : Sizes) (f : Flash) (slots : List ℕ) where
  -- filling m is one "whose recovery succeeds"
  unfoldable pub recovers : (m : ℕ) → Bool
  recovers m = eqb (recovery_of widths sizes (filled_with sizes.width f (absent_in slots m))).answer 0

  -- page p's "committed version" in it
  unfoldable pub version_filled : (m p : ℕ) → ℕ
  version_filled m p = (state_at (recovery_of widths sizes (filled_with sizes.width f (absent_in slots m))).left p).committed

  -- "the number of those fillings"
  unfoldable pub recovering : ℕ
  recovering = length (list_below (fillings slots) recovers)

  -- "for each page the lowest and highest committed version over all fillings whose recovery succeeds"
  unfoldable pub lowest_filled : (p : ℕ) → ℕ
  lowest_filled p = min_below no_number (fillings slots) (λ m. cond (recovers m) (version_filled m p) no_number)

  unfoldable pub highest_filled : (p : ℕ) → ℕ
  highest_filled p = max_below (fillings slots) (λ m. cond (recovers m) (version_filled m p) 0)

  -- "in 2×P lent words, lowest then highest for each page"
  unfoldable pub doubtful_words : List ℕ
  doubtful_words = join_parts sizes.pages (λ p. lowest_filled p ∷ highest_filled p ∷ [])

-- ---- the call

-- "6 (whose empty-list rule does not apply here)"; "a listed blank slot is 6"
unfoldable pub doubtful_list_ok : ℕ → (words : List ℕ) → (slots : List ℕ) → Bool
doubtful_list_ok S words slots = in_range S slots && (no_repeats slots && all_below (length slots) (λ i. not (is_blank (slot_at words (get_or slots i 0)))))

-- the sizes and the lengths of what is lent
unfoldable pub doubtful_fits : Widths → Sizes → Flash → (out : List ℕ) → Bool
doubtful_fits widths sizes f out =
    sizes_ok widths sizes
    && (words_fit sizes.slots f.words
    && (contents_fit sizes.width sizes.slots f.contents
    && eqb (length out) (2 * sizes.pages)))

-- "Refused: 1 and 2 as in recovery; 19, more than 8 doubtful slots, after 6 …; 20, no filling recovers, after 19"; lent words of another number than 2×P are 1, too.
unfoldable pub doubtful_answer : Widths → Sizes → Flash → (slots out : List ℕ) → ℕ
doubtful_answer widths sizes f slots out =
    not (doubtful_fits widths sizes f out) ⇒ 1 otherwise
    not (table_sound sizes.pages sizes.slots (slot_at f.words)) ⇒ 2 otherwise
    not (doubtful_list_ok sizes.slots f.words slots) ⇒ 6 otherwise
    ltb max_doubtful (length slots) ⇒ 19 otherwise
    eqb (recovering widths sizes f slots) 0 ⇒ 20 otherwise
    0

-- It "return[s] the number of those fillings (0 on refusal)", and alters the lent words alone.
unfoldable pub doubtful_outcome : Widths → Sizes → Flash → (slots out : List ℕ) → Outcome (List ℕ)
doubtful_outcome widths sizes f slots out = settled (doubtful_answer widths sizes f slots out) 0 (recovering widths sizes f slots) out (doubtful_words widths sizes f slots)

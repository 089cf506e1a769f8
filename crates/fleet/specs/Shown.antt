-- What is shown of the page, stated: document 02, wish 13, "Show every line's width and each total exactly"; of the figures and the reading; and of the buffers.
use Rattle.std.specs.Prelude.{ℕ, zero, suc, ◌+◌, ◌*◌, ◌/◌, ◌%◌, ◌^◌, ◌≤◌, ◌<◌, ◌≡◌, List, [], ◌∷◌, ◌++◌, map, Bool, true, cond, not, ◌&&◌, ◌||◌, ltb, eqb, length, get_or, take, drop, replicate}
use Rattle.std.proofs.Math.Option.{Option, none, some}
use Rattle.bounded.specs.Limits.{Widths, two_widths}
use Rattle.bounded.specs.Below.{sum_below, list_below}
use Rattle.bounded.specs.Parts.{join_parts}
use Rattle.sizes.specs.declared.Sizes.{Sizes}
use Rattle.sizes.specs.Sizes.{sizes_ok}
use Rattle.text.specs.Scan.{Scanned, is_digit, number}
use Rattle.text.specs.Print.{shown, added}
use Rattle.text.specs.Lines.{lines_in}
use Rattle.record.specs.Slot.{Slot}
use Rattle.record.specs.Slot.{slot_at, is_blank, holds}
use Rattle.record.specs.Flash.{Flash}
use Rattle.state.specs.declared.PageState.{PageState}
use Rattle.state.specs.State.{state_at}
use Rattle.rules.specs.Volume.{Volume}
use Rattle.rules.specs.Recover.{recover_outcome}
use Rattle.rules.specs.Permission.{is_obsolete, is_exposed, may_erase_record, untwinned}
use Rattle.fleet.specs.declared.Figures.{Figures}
use Rattle.fleet.specs.Entry.{Entry, Counted, Refused}
use Rattle.fleet.specs.Figures.{figures_of, entry_of}
use Rattle.fleet.specs.Input.{sizes_at, volume_length, sizes_taken, entries_of}
use Rattle.fleet.specs.Page.{van_page}

-- ---- the figures

-- Of every table and state, the four figures:
pub record FiguresShown (P S : ℕ) (t : ℕ → Slot) (st : ℕ → PageState) : Type 0 where
  -- "A page is empty exactly when its committed version is 0": the pages set and the empty ones are all
  pub set_or_empty : (figures_of P S t st).pages + length (list_below P (λ p. eqb (st p).committed 0)) ≡ P
  -- the slots that hold an exposed record
  pub exposed : (figures_of P S t st).exposed ≡ length (list_below S (λ k. holds (is_exposed st) (t k)))
  -- each record is obsolete, exposed, or of its page's committed version
  pub each_record :
      (figures_of P S t st).obsolete + (figures_of P S t st).exposed + length (list_below S (λ k. holds (λ r. eqb r.v (st r.p).committed) (t k)))
      ≡ length (list_below S (λ k. not (is_blank (t k))))
  -- of the obsolete ones the needed straddlers are those that document 01 does not let go (one with a twin outside the erase list may go, by document 02)
  pub needed_stay : (figures_of P S t st).needed + length (list_below S (λ k. holds (λ r. is_obsolete st r && may_erase_record (untwinned S t st) r) (t k))) ≡ (figures_of P S t st).obsolete

-- Of every volume, recovered on any state of the right length:
pub record EntriesShown (widths : Widths) : Type 0 where
  -- where it recovers its figures are by the state that this gives
  pub counted_by :
      (z : Sizes) (v : Volume) → length v.state ≡ 4 * z.pages → (recover_outcome widths z v).answer ≡ 0
      → entry_of widths z v.flash ≡ Counted (figures_of z.pages z.slots (slot_at v.flash.words) (state_at (recover_outcome widths z v).left))
  -- "A volume that doesn't recover prints its refusal"
  pub refused_by :
      (z : Sizes) (v : Volume) → length v.state ≡ 4 * z.pages → ¬ ((recover_outcome widths z v).answer ≡ 0)
      → entry_of widths z v.flash ≡ Refused (recover_outcome widths z v).answer

-- ---- the reading

-- a number as four bytes, "lowest byte first"
unfoldable pub word_bytes : ℕ → List ℕ
word_bytes n = n % 256 ∷ n / 256 % 256 ∷ n / 65536 % 256 ∷ n / 16777216 % 256 ∷ []

-- "P, S, the width"
unfoldable pub sizes_bytes : Sizes → List ℕ
sizes_bytes z = word_bytes z.pages ++ (word_bytes z.slots ++ word_bytes z.width)

-- a volume as it stands in the input: "each P, S, the width, the table's words, all 32 bits lowest byte first, then the contents"
unfoldable pub volume_bytes : Sizes → Flash → List ℕ
volume_bytes z f = sizes_bytes z ++ (join_parts (5 * z.slots) (λ i. word_bytes (get_or f.words i 0)) ++ f.contents)

-- numbers of 32 bits
pub record SizesIn32 (z : Sizes) : Type 0 where
  pub pages_in_lem : z.pages < 2 ^ 32
  pub slots_in_lem : z.slots < 2 ^ 32
  pub width_in : z.width < 2 ^ 32

-- no "wrong sizes (64 wide with over 512 slots included)"
pub record RightSizes (widths : Widths) (z : Sizes) : Type 0 where
  pub sizes_ok_lem : sizes_ok widths z ≡ true
  pub wide_few : z.width ≡ 64 → z.slots ≤ 512

-- a volume whose sizes are right and whose flash is as long as they say, of words of 32 bits
pub record Written (widths : Widths) (z : Sizes) (f : Flash) : Type 0 where
  pub right : RightSizes widths z
  pub width_in : z.width < 2 ^ 32
  pub words_sized : length f.words ≡ 5 * z.slots
  pub words_in : (i : ℕ) → i < 5 * z.slots → get_or f.words i 0 < 2 ^ 32
  pub contents_sized : length f.contents ≡ z.width * z.slots

-- Of input of which n volumes are read at most, case by case: nothing is left, fewer than 12 bytes are, or sizes are, which are wrong or those of a volume that is whole or cut short.
pub record ReadingShown (widths : Widths) : Type 0 where
  -- a volume is read as it was written, and then what is behind it
  pub reads :
      (z : Sizes) (f : Flash) → Written widths z f → (n : ℕ) (rest : List ℕ)
      → entries_of widths (suc n) (volume_bytes z f ++ rest) ≡ entry_of widths z f ∷ entries_of widths n rest
  -- "The input may end before any volume."
  pub ends : (n : ℕ) → entries_of widths n [] ≡ []
  -- one "cut short prints … 1 … and ends the reading", at any byte
  pub cut_short :
      (z : Sizes) (f : Flash) → Written widths z f → (n k : ℕ) → 0 < k → k < length (volume_bytes z f)
      → entries_of widths (suc n) (take k (volume_bytes z f)) ≡ Refused 1 ∷ []
  -- … in its sizes, whatever they begin with
  pub cut_early : (input : List ℕ) → 0 < length input → length input < 12 → (n : ℕ) → entries_of widths (suc n) input ≡ Refused 1 ∷ []
  -- "A volume with wrong sizes … prints … 1 … and ends the reading", whatever is behind them
  pub wrong_sizes_lem :
      (z : Sizes) → SizesIn32 z → ¬ RightSizes widths z → (n : ℕ) (rest : List ℕ)
      → entries_of widths (suc n) (sizes_bytes z ++ rest) ≡ Refused 1 ∷ []
  -- no more than n are read: n is 32 in `PagesShown`
  pub no_more : (input : List ℕ) → entries_of widths 0 input ≡ []
  pub at_most : (n : ℕ) (input : List ℕ) → length (entries_of widths n input) ≤ n

-- ---- the page, as a reader of it sees it

-- what stands in some columns: nothing, a number of 32 bits without a leading zero that ends in the last of them, or else
pub data Cell : Type 0 where
  Empty : Cell
  Number : (n : ℕ) → Cell
  Else : Cell

unfoldable pub past_blanks : List ℕ → List ℕ
past_blanks [] = []
past_blanks (b ∷ s) = cond (eqb b 32) (past_blanks s) (b ∷ s)

unfoldable pub ends_with : ℕ → List ℕ → Cell
ends_with n [] = Number n
ends_with n (b ∷ s) = Else

unfoldable pub number_cell : Option Scanned → Cell
number_cell none = Else
number_cell (some n) = ends_with n.value n.rest

unfoldable pub cell_by : List ℕ → Cell
cell_by [] = Empty
cell_by (b ∷ s) = cond (eqb b 48 && ltb 0 (length s)) Else (number_cell (number (b ∷ s)))

unfoldable pub cell_of : List ℕ → Cell
cell_of s = cell_by (past_blanks s)

-- the five cells of a line: "its number … in 8 columns, then … in 16 each"
unfoldable pub cells_of : (line : List ℕ) → List Cell
cells_of line = cell_of (take 8 line) ∷ cell_of (take 16 (drop 8 line)) ∷ cell_of (take 16 (drop 24 line)) ∷ cell_of (take 16 (drop 40 line)) ∷ cell_of (take 16 (drop 56 line)) ∷ []

-- a line of blanks and digits alone
unfoldable pub is_plain : (line : List ℕ) → Bool
is_plain [] = true
is_plain (b ∷ s) = (eqb b 32 || is_digit b) && is_plain s

-- what a volume adds to a column, `of` being its figure: "neither kind adds anything"
unfoldable pub amount : (of : Figures → ℕ) → Entry → ℕ
amount of (Counted f) = of f
amount of (Refused a) = 0

-- the sum of a column over the volumes that are counted
unfoldable pub total : (of : Figures → ℕ) → List Entry → ℕ
total of entries = sum_below (length entries) (λ i. amount of (get_or entries i (Refused 0)))

-- "the mean counts only the others": how many are counted
unfoldable pub volumes_counted : List Entry → ℕ
volumes_counted entries = total (λ f. 1) entries

-- the cells of a volume's line: its number, and its figures, or its refusal "in the pages column"
unfoldable pub volume_cells : (i : ℕ) → Entry → List Cell
volume_cells i (Counted f) = Number i ∷ Number f.pages ∷ Number f.obsolete ∷ Number f.exposed ∷ Number f.needed ∷ []
volume_cells i (Refused a) = Number i ∷ Number a ∷ Empty ∷ Empty ∷ Empty ∷ []

unfoldable pub all_cells : (i : ℕ) → List Entry → List (List Cell)
all_cells i [] = []
all_cells i (e ∷ entries) = volume_cells i e ∷ all_cells (suc i) entries

-- "a line of the four totals in the same columns"
unfoldable pub totals_cells : List Entry → List Cell
totals_cells entries = Empty ∷ Number (total (λ f. f.pages) entries) ∷ Number (total (λ f. f.obsolete) entries) ∷ Number (total (λ f. f.exposed) entries) ∷ Number (total (λ f. f.needed) entries) ∷ []

-- "the mean of pages set, as a whole number and a remainder over the volumes", "in the first two of them"; "with none it is 0 and 0"
pub record Mean (entries : List Entry) (cells : List Cell) : Type 0 where
  pub whole : ℕ
  pub remainder : ℕ
  pub cells_are : cells ≡ Empty ∷ Number whole ∷ Number remainder ∷ Empty ∷ Empty ∷ []
  pub none_counted : volumes_counted entries ≡ 0 → (whole ≡ 0) × (remainder ≡ 0)
  pub divides : 0 < volumes_counted entries → (volumes_counted entries * whole + remainder ≡ total (λ f. f.pages) entries) × (remainder < volumes_counted entries)

-- Of the page of an input, its volumes coming to these entries:
pub record PageShown (page : List ℕ) (entries : List Entry) : Type 0 where
  -- its lines, each with its line end, and nothing behind the last
  pub lines : List (List ℕ)
  pub lines_are : lines_in page ≡ lines ++ ([] ∷ [])
  -- "every line's width": 72 columns, of blanks and digits, a line for each volume and two more
  pub wide : map length lines ≡ replicate (length entries + 2) 72
  pub plain : map is_plain lines ≡ replicate (length entries + 2) true
  -- each volume's line says what it comes to, by its number from 1; "each total exactly": the sum of its column over the volumes that are counted; and the mean
  pub mean : List Cell
  pub says : map cells_of lines ≡ all_cells 1 entries ++ (totals_cells entries ∷ mean ∷ [])
  pub mean_is : Mean entries mean

-- Of every input; "a 33rd is not read":
abbrev pub PagesShown : Widths → Type 0
PagesShown widths = (input : List ℕ) → PageShown (van_page widths input) (entries_of widths 32 input)

-- ---- the buffers

-- how many bytes the volume in front has, by its sizes; where they are wrong, those that tell them
unfoldable pub announced_by : Widths → List ℕ → ℕ
announced_by widths input = cond (sizes_taken widths (sizes_at input)) (volume_length (sizes_at input)) 12

-- How many bytes are read where n volumes are at most: of each as many as it has, as far as they are there; "cut short … ends the reading", and so do "wrong sizes", behind which nothing is read.
unfoldable pub bytes_read : Widths → (n : ℕ) → List ℕ → ℕ
bytes_read widths zero input = 0
bytes_read widths (suc n) input =
    cond (ltb (length input) 12 || ltb (length input) (announced_by widths input)) (length input)
    (cond (sizes_taken widths (sizes_at input)) (announced_by widths input + bytes_read widths n (drop (announced_by widths input) input)) 12)

-- 32 of the largest volumes: 1,024 slots, 32 wide
abbrev pub longest_input : ℕ
longest_input = 1704320

-- These bytes of an input decide what is printed; they are no more than the largest volumes have.
pub record EnoughRead : Type 0 where
  pub decide : (input : List ℕ) → van_page two_widths (take (bytes_read two_widths 32 input) input) ≡ van_page two_widths input
  pub most_read : (input : List ℕ) → bytes_read two_widths 32 input ≤ longest_input

-- 34 lines, each with its line end
abbrev pub longest_page : ℕ
longest_page = 2482

-- In a buffer of more bytes nothing is left out, and the place behind what is printed is its length.
abbrev pub RoomEnough : Widths → Type 0
RoomEnough widths =
    (input out left : List ℕ) (r : ℕ)
    → longest_page < length out
    → length left ≡ length out
    → shown left r ≡ added out 0 (van_page widths input)
    → (shown left r ≡ van_page widths input) × (r ≡ length (van_page widths input))

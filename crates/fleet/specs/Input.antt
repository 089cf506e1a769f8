-- Volumes read from standard input: document 02, wish 13, "up to 32 volumes … (each P, S, the width, the table's words, all 32 bits lowest byte first, then the contents)". Input is its bytes.
use Rattle.std.specs.Prelude.{ℕ, zero, suc, ◌+◌, ◌*◌, List, [], ◌∷◌, Bool, true, false, not, ◌&&◌, ltb, leb, eqb, length, get_or, take, drop}
use Rattle.bounded.specs.Limits.{Widths}
use Rattle.bounded.specs.Parts.{part}
use Rattle.bounded.specs.Tabulate.{tabulate}
use Rattle.sizes.specs.declared.Sizes.{Sizes}
use Rattle.sizes.specs.Sizes.{sizes_of, sizes_ok}
use Rattle.record.specs.Flash.{Flash, flash}
use Rattle.fleet.specs.Entry.{Entry, Refused}
use Rattle.fleet.specs.Figures.{entry_of}

-- "32 bits lowest byte first"
unfoldable pub word_of : List ℕ → ℕ
word_of bytes = get_or bytes 0 0 + 256 * (get_or bytes 1 0 + 256 * (get_or bytes 2 0 + 256 * get_or bytes 3 0))

-- word i of some bytes
unfoldable pub word_at : List ℕ → ℕ → ℕ
word_at bytes i = word_of (part 4 i bytes)

-- "each P, S, the width"
unfoldable pub sizes_at : List ℕ → Sizes
sizes_at input = sizes_of (word_at input 0) (word_at input 1) (word_at input 2)

-- how many bytes P, S, the width and the table's words have
unfoldable pub table_end : Sizes → ℕ
table_end z = 12 + 20 * z.slots

-- how many bytes a volume has
unfoldable pub volume_length : Sizes → ℕ
volume_length z = table_end z + z.width * z.slots

-- "the table's words … then the contents"
unfoldable pub flash_at : List ℕ → Flash
flash_at input =
    let z = sizes_at input in
    flash (tabulate (5 * z.slots) (λ i. word_at input (3 + i))) (take (z.width * z.slots) (drop (table_end z) input))

-- no "wrong sizes (64 wide with over 512 slots included)"
unfoldable pub sizes_taken : Widths → Sizes → Bool
sizes_taken widths z = sizes_ok widths z && not (eqb z.width 64 && ltb 512 z.slots)

-- the input begins with a volume that has right sizes and is not "cut short"
unfoldable pub is_whole : Widths → List ℕ → Bool
is_whole widths input = leb 12 (length input) && (sizes_taken widths (sizes_at input) && leb (volume_length (sizes_at input)) (length input))

-- one entry, and those behind it; or a volume that "prints … 1 … and ends the reading"
unfoldable pub entries_if : (whole : Bool) → Entry → List Entry → List Entry
entries_if true first rest = first ∷ rest
entries_if false first rest = Refused 1 ∷ []

-- What the volumes in the input come to, n of them at most: "The input may end before any volume".
unfoldable pub entries_of : Widths → (n : ℕ) → List ℕ → List Entry
entries_of widths zero input = []
entries_of widths (suc n) [] = []
entries_of widths (suc n) (b ∷ input) =
    entries_if (is_whole widths (b ∷ input)) (entry_of widths (sizes_at (b ∷ input)) (flash_at (b ∷ input))) (entries_of widths n (drop (volume_length (sizes_at (b ∷ input))) (b ∷ input)))

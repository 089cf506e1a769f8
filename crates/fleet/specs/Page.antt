-- The page that is printed: document 02, wish 13, "print a page 72 columns wide".
use Rattle.std.specs.Prelude.{ℕ, zero, suc, ◌+◌, ◌-◌, ◌/◌, ◌%◌, List, [], ◌∷◌, ◌++◌, length, replicate}
use Rattle.bounded.specs.Limits.{Widths}
use Rattle.text.specs.Print.{decimal}
use Rattle.fleet.specs.declared.Figures.{Figures}
use Rattle.fleet.specs.Entry.{Entry, Counted, Refused}
use Rattle.fleet.specs.Input.{entries_of}

-- ---- what is added up

-- the figures of the volumes that are counted: "neither kind adds anything"
unfoldable pub counted : List Entry → List Figures
counted [] = []
counted (Counted f ∷ entries) = f ∷ counted entries
counted (Refused a ∷ entries) = counted entries

-- a column's total: `of` is its figure
unfoldable pub sum_of : (of : Figures → ℕ) → List Figures → ℕ
sum_of of [] = 0
sum_of of (f ∷ figures) = of f + sum_of of figures

-- "the four totals"
unfoldable pub totals : List Figures → Figures
totals figures =
    record {
      pages = sum_of (λ f. f.pages) figures;
      obsolete = sum_of (λ f. f.obsolete) figures;
      exposed = sum_of (λ f. f.exposed) figures;
      needed = sum_of (λ f. f.needed) figures;
    }

-- "the mean of pages set, as a whole number and a remainder over the volumes", n of them; "with none it is 0 and 0"
unfoldable pub mean_whole : (sum n : ℕ) → ℕ
mean_whole sum zero = 0
mean_whole sum (suc n) = sum / suc n

unfoldable pub mean_remainder : (sum n : ℕ) → ℕ
mean_remainder sum zero = 0
mean_remainder sum (suc n) = sum % suc n

-- ---- lines, without their line ends

-- "all other columns are blank"
unfoldable pub blanks : ℕ → List ℕ
blanks n = replicate n 32

-- a number in so many columns, "right-aligned"
unfoldable pub column : (columns n : ℕ) → List ℕ
column columns n = blanks (columns - length (decimal n)) ++ decimal n

-- "in 16 each, right-aligned"
unfoldable pub figures_text : Figures → List ℕ
figures_text f = column 16 f.pages ++ (column 16 f.obsolete ++ (column 16 f.exposed ++ column 16 f.needed))

-- the figures of a volume that is counted; else "its refusal", or "1 in the pages column"
unfoldable pub entry_text : Entry → List ℕ
entry_text (Counted f) = figures_text f
entry_text (Refused a) = column 16 a ++ blanks 48

-- "per volume its number from 1 in 8 columns"
unfoldable pub volume_line : (number : ℕ) → Entry → List ℕ
volume_line number e = column 8 number ++ entry_text e

unfoldable pub volume_lines : (number : ℕ) → List Entry → List (List ℕ)
volume_lines number [] = []
volume_lines number (e ∷ entries) = volume_line number e ∷ volume_lines (suc number) entries

-- "then a line of the four totals in the same columns"
unfoldable pub totals_line : (totals : Figures) → List ℕ
totals_line totals = blanks 8 ++ figures_text totals

-- "then a line with the mean of pages set, … right-aligned in the first two of them"
unfoldable pub mean_line : (sum n : ℕ) → List ℕ
mean_line sum n = blanks 8 ++ (column 16 (mean_whole sum n) ++ (column 16 (mean_remainder sum n) ++ blanks 32))

unfoldable pub page_lines : List Entry → List (List ℕ)
page_lines entries =
    let figures = counted entries in
    volume_lines 1 entries ++ (totals_line (totals figures) ∷ mean_line (totals figures).pages (length figures) ∷ [])

-- ---- the page

-- lines as text: each ends with a line end (byte 10)
unfoldable pub as_text : List (List ℕ) → List ℕ
as_text [] = []
as_text (line ∷ lines) = line ++ (10 ∷ as_text lines)

-- What is printed for an input; "a 33rd is not read".
unfoldable pub van_page : Widths → (input : List ℕ) → List ℕ
van_page widths input = as_text (page_lines (entries_of widths 32 input))

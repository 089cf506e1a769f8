-- The sizes of a volume, the lengths of its buffers, and the lists that calls take.
use Rattle.std.specs.Prelude.{ℕ, ◌*◌, List, Bool, not, ◌&&◌, ltb, leb, eqb, length, get_or}
use Rattle.bounded.specs.Limits.{max_pages, max_slots, Widths}
use Rattle.bounded.specs.Below.{all_below, some_below}
use Rattle.sizes.specs.declared.Layout.{Layout}
use Rattle.sizes.specs.declared.Layout.TheVariants.{FiveWords, FourWords}
use Rattle.sizes.specs.declared.Sizes.{Sizes}

-- the sizes of a volume of P pages and S slots, with w bytes of contents a slot
abbrev pub sizes_of : (P S w : ℕ) → Sizes
sizes_of P S w = record { pages = P; slots = S; width = w }

-- "P pages (pistons), 1 to 256 … S slots, P to 1,024"; and the width is one of those allowed
unfoldable pub sizes_ok : Widths → Sizes → Bool
sizes_ok widths sizes =
    leb 1 sizes.pages
    && (leb sizes.pages max_pages
    && (leb sizes.pages sizes.slots
    && (leb sizes.slots max_slots
    && widths sizes.width)))

-- how many words a slot has: "p, v, np, nv and no back pointer" are four
abbrev pub stride_of : Layout → ℕ
stride_of FiveWords = 5
stride_of FourWords = 4

-- "The slot table has 5×S unsigned 32-bit words", or as many as the layout says
unfoldable pub words_fit_in : Layout → ℕ → List ℕ → Bool
words_fit_in layout S words = eqb (length words) (stride_of layout * S)

abbrev pub words_fit : ℕ → List ℕ → Bool
words_fit S words = words_fit_in FiveWords S words

-- "the contents 32×S bytes", for w bytes a slot
unfoldable pub contents_fit : (w S : ℕ) → List ℕ → Bool
contents_fit w S contents = eqb (length contents) (w * S)

-- "The sheet is … 4×P 32-bit words"
unfoldable pub state_fits : ℕ → List ℕ → Bool
state_fits P state = eqb (length state) (4 * P)

-- "repeated entry": none of the list
unfoldable pub no_repeats : List ℕ → Bool
no_repeats list = all_below (length list) (λ i. all_below i (λ j. not (eqb (get_or list j 0) (get_or list i 0))))

-- "a page or slot out of range": none of the list, whose entries are to be below n
unfoldable pub in_range : ℕ → List ℕ → Bool
in_range n list = all_below (length list) (λ i. ltb (get_or list i 0) n)

-- no "empty list, repeated entry, or a page or slot out of range"
unfoldable pub list_ok : ℕ → List ℕ → Bool
list_ok n list = leb 1 (length list) && (in_range n list && no_repeats list)

-- the number stands in the list
unfoldable pub listed : List ℕ → ℕ → Bool
listed list n = some_below (length list) (λ i. eqb (get_or list i 0) n)

-- Document 02, wish 11, computed: the number of fillings that recover, each page's lowest and highest version, and the refusals.
use Rattle.std.specs.Prelude.{ℕ, refl, List, [], ◌∷◌, ◌++◌, eqb, replicate}
use Rattle.bounded.specs.Below.{min_below}
use Rattle.outcome.specs.Outcome.{Outcome}
use Rattle.outcome.specs.Row.{Row, row, RowsHold}
use Rattle.sizes.specs.Sizes.{sizes_of}
use Rattle.record.specs.declared.Record.{Record}
use Rattle.record.specs.Flash.{Flash, flash}
use Rattle.table.specs.Given.{given, formatted_records, table_of}
use Rattle.rules.specs.cases.Computing.{computing}
use Rattle.rules.specs.cases.Twins.{byte_wide}
use Rattle.upkeep.specs.Doubtful.{absent_in, fillings, filled_with, recovery_of, recovers, version_filled, recovering, lowest_filled, highest_filled, doubtful_words, doubtful_list_ok, doubtful_fits, doubtful_answer, doubtful_outcome}

-- five slots of 1 byte that hold these records, with the byte 5, but for the third slot, whose byte is given
unfoldable pub five : (third : ℕ) → List Record → Flash
five third records = flash (table_of 5 records) (5 ∷ 5 ∷ third ∷ 5 ∷ 5 ∷ [])

-- the answer, the second number and the lent words
unfoldable pub whole_of : Outcome (List ℕ) → List ℕ
whole_of o = o.answer ∷ o.second ∷ o.left

-- the same, of two pages in five slots, the words being 7 before
unfoldable pub doubtful_on : Flash → List ℕ → List ℕ
doubtful_on f slots = whole_of (doubtful_outcome byte_wide (sizes_of 2 5 1) f slots (replicate 4 7))

unfoldable pub doubtful_answers : Flash → List ℕ → (words : ℕ) → ℕ
doubtful_answers f slots words = (doubtful_outcome byte_wide (sizes_of 2 5 1) f slots (replicate words 7)).answer

-- a slot that is neither blank nor sound
unfoldable pub unsound : Flash
unsound = five 5 (given 0 2 3 0 0 ∷ [])

-- nine slots, of which the first n hold page 0 at version 0, with a byte of its own each
unfoldable pub nine : (n : ℕ) → Flash
nine n = flash (table_of 9 (replicate n (given 0 0 0 0 0))) (0 ∷ 1 ∷ 2 ∷ 3 ∷ 4 ∷ 5 ∷ 6 ∷ 7 ∷ 8 ∷ [])

-- all of them
unfoldable pub all9 : List ℕ
all9 = 0 ∷ 1 ∷ 2 ∷ 3 ∷ 4 ∷ 5 ∷ 6 ∷ 7 ∷ 8 ∷ []

-- a set of both pages, stored in slots 2 and 3
unfoldable pub stored : Flash
stored = five 5 (formatted_records 2 ++ given 0 1 0 1 1 ∷ given 1 1 0 0 1 ∷ [])

-- two records of page 0 at version 0 that are no twins, in slots 0 and 2
unfoldable pub clashing : Flash
clashing = five 9 (formatted_records 2 ++ given 0 0 0 0 0 ∷ [])

unfoldable pub doubtful_rows : List Row
doubtful_rows =
    -- "An empty list gives recovery's own versions."
    row 11 (doubtful_on stored []) (0 ∷ 1 ∷ 1 ∷ 1 ∷ 1 ∷ 1 ∷ [])
    -- a record of the set in doubt: it is there, and both pages are new, or not, and both are old
    ∷ row 11 (doubtful_on stored (3 ∷ [])) (0 ∷ 2 ∷ 0 ∷ 1 ∷ 0 ∷ 1 ∷ [])
    -- an old record in doubt: nothing depends on it
    ∷ row 11 (doubtful_on stored (0 ∷ [])) (0 ∷ 2 ∷ 1 ∷ 1 ∷ 1 ∷ 1 ∷ [])
    -- both in doubt: without them page 0 has no committed record (14), and that filling does not count
    ∷ row 11 (doubtful_on stored (3 ∷ 0 ∷ [])) (0 ∷ 3 ∷ 0 ∷ 1 ∷ 0 ∷ 1 ∷ [])
    -- the volume does not recover (3), a filling does
    ∷ row 11 (doubtful_on clashing (2 ∷ [])) (0 ∷ 1 ∷ 0 ∷ 0 ∷ 0 ∷ 0 ∷ [])
    -- "20, no filling recovers", by an empty list and by one that does not help; the words stay
    ∷ row 11 (doubtful_on clashing []) (20 ∷ 0 ∷ replicate 4 7)
    ∷ row 11 (doubtful_on clashing (1 ∷ [])) (20 ∷ 0 ∷ replicate 4 7)
    -- 6: out of range, listed twice, blank; before 20
    ∷ row 11 (doubtful_answers stored (5 ∷ []) 4 ∷ doubtful_answers stored (3 ∷ 3 ∷ []) 4 ∷ doubtful_answers clashing (4 ∷ []) 4 ∷ []) (6 ∷ 6 ∷ 6 ∷ [])
    -- "19, more than 8 doubtful slots, after 6", and before 20: of nine slots none is blank, or one is; page 1 has no record, so that no filling recovers
    ∷ row 11 ((doubtful_outcome byte_wide (sizes_of 2 9 1) (nine 9) all9 (replicate 4 7)).answer ∷ (doubtful_outcome byte_wide (sizes_of 2 9 1) (nine 8) all9 (replicate 4 7)).answer ∷ []) (19 ∷ 6 ∷ [])
    -- of three records of a page and version, all different, one alone may stay
    ∷ row 11 (whole_of (doubtful_outcome byte_wide (sizes_of 1 3 1) (flash (table_of 3 (replicate 3 (given 0 0 0 0 0))) (1 ∷ 2 ∷ 3 ∷ [])) (0 ∷ 1 ∷ 2 ∷ []) (7 ∷ 7 ∷ []))) (0 ∷ 3 ∷ 0 ∷ 0 ∷ [])
    -- the links of a filling may run astray (4): page 1's version 1 in slot 3 is a ring by itself, which the record in slot 2 leads into
    ∷ row 11 (doubtful_on (five 5 (formatted_records 2 ++ given 0 1 0 1 1 ∷ given 1 1 0 1 1 ∷ [])) (2 ∷ 3 ∷ [])) (0 ∷ 3 ∷ 0 ∷ 0 ∷ 0 ∷ 1 ∷ [])
    -- two bytes a slot: the twins in slots 0 and 1 stay as they are
    ∷ row 11 (whole_of (doubtful_outcome (eqb 2) (sizes_of 1 4 2) (flash (table_of 4 (given 0 0 0 0 0 ∷ given 0 0 0 0 0 ∷ given 0 1 0 0 1 ∷ [])) (replicate 8 4)) (2 ∷ []) (7 ∷ 7 ∷ []))) (0 ∷ 2 ∷ 0 ∷ 1 ∷ [])
    -- 1 and 2: words of another number, a slot that is not sound; before 6, and 1 before 2
    ∷ row 11 (doubtful_answers stored (5 ∷ []) 3 ∷ doubtful_answers unsound (5 ∷ []) 5 ∷ doubtful_answers unsound (5 ∷ []) 4 ∷ []) (1 ∷ 1 ∷ 2 ∷ [])
    ∷ []

pub doubtful_rows_lem : RowsHold doubtful_rows
unfolding doubtful_rows doubtful_on doubtful_answers whole_of unsound nine all9 stored clashing five byte_wide absent_in fillings filled_with recovery_of recovers version_filled recovering lowest_filled highest_filled doubtful_words doubtful_list_ok doubtful_fits doubtful_answer doubtful_outcome min_below computing
doubtful_rows_lem = refl

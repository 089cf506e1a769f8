-- Document 01's cases 1 to 5 and 9 to 11: tables that recover, through recover's whole outcome.
use Rattle.std.specs.Prelude.{ℕ, ◌*◌, List, [], ◌∷◌, ◌++◌, replicate}
use Rattle.bounded.specs.Limits.{two_widths}
use Rattle.bounded.specs.Parts.{join_parts}
use Rattle.outcome.specs.Outcome.{Outcome}
use Rattle.outcome.specs.Row.{Row, row}
use Rattle.sizes.specs.Sizes.{sizes_of}
use Rattle.record.specs.declared.Record.{Record}
use Rattle.state.specs.State.{state_at}
use Rattle.table.specs.Given.{given, formatted_records, table_of}
use Rattle.rules.specs.Volume.{volume}
use Rattle.rules.specs.Recover.{recover_outcome}

-- Recover on 8 slots that hold these records, with zero bytes; the old state holds anything, here 7 in every word.
unfoldable pub recover_on : ℕ → List Record → Outcome (List ℕ)
recover_on P records = recover_outcome two_widths (sizes_of P 8 32) (volume (table_of 8 records) (replicate (32 * 8) 0) (replicate (4 * P) 7))

-- the committed versions that an outcome's state says, page by page; and the used ones
unfoldable pub committed_in : ℕ → Outcome (List ℕ) → List ℕ
committed_in P o = join_parts P (λ p. (state_at o.left p).committed ∷ [])

unfoldable pub used_in : ℕ → Outcome (List ℕ) → List ℕ
used_in P o = join_parts P (λ p. (state_at o.left p).used ∷ [])

-- the answer and the committed versions; and the used ones too
unfoldable pub committed_found : ℕ → List Record → List ℕ
committed_found P records = let o = recover_on P records in o.answer ∷ committed_in P o

unfoldable pub both_found : ℕ → List Record → List ℕ
both_found P records = let o = recover_on P records in o.answer ∷ committed_in P o ++ used_in P o

-- the tables of cases 2 and 4, which other cases build on
unfoldable pub table2 : List Record
table2 = formatted_records 2 ++ given 0 1 0 1 1 ∷ []

unfoldable pub table4 : List Record
table4 = formatted_records 3 ++ given 0 1 0 1 1 ∷ given 1 2 0 2 1 ∷ given 2 1 0 1 2 ∷ []

-- Each row: the answer, then the committed versions of the pages, then the used ones where document 01 states them.
unfoldable pub recovery_rows : List Row
recovery_rows =
    row 1 (both_found 1 (formatted_records 1)) (0 ∷ 0 ∷ 0 ∷ [])
    ∷ row 2 (both_found 2 table2) (0 ∷ 0 ∷ 0 ∷ 1 ∷ 1 ∷ [])
    ∷ row 3 (both_found 2 (table2 ++ given 1 1 0 0 1 ∷ [])) (0 ∷ 1 ∷ 1 ∷ 1 ∷ 1 ∷ [])
    ∷ row 4 (committed_found 3 table4) (0 ∷ 0 ∷ 2 ∷ 1 ∷ [])
    ∷ row 5 (committed_found 3 (given 0 1 0 1 1 ∷ given 1 2 1 2 1 ∷ given 2 1 0 1 2 ∷ [])) (0 ∷ 1 ∷ 2 ∷ 1 ∷ [])
    ∷ row 9 ((recover_on 3 (given 0 1 0 1 1 ∷ given 1 1 0 2 1 ∷ given 2 1 0 1 1 ∷ [])).answer ∷ []) (4 ∷ [])
    ∷ row 10 ((recover_on 2 (given 0 2 1 1 5 ∷ given 1 0 0 1 0 ∷ [])).answer ∷ []) (14 ∷ [])
    ∷ row 11 (both_found 2 (table2 ++ given 1 1 0 0 2 ∷ [])) (0 ∷ 0 ∷ 0 ∷ 2 ∷ 1 ∷ [])
    ∷ []

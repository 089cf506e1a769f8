-- Document 02, wish 6: the links that recover returns on the tables of document 01's cases, on others and on the one-ring table, through its outcome.
use Rattle.std.specs.Prelude.{ℕ, ◌*◌, List, [], ◌∷◌, ◌++◌, replicate}
use Rattle.bounded.specs.Limits.{no_number, two_widths}
use Rattle.outcome.specs.Row.{Row, row}
use Rattle.sizes.specs.declared.Layout.TheVariants.{FiveWords}
use Rattle.sizes.specs.Sizes.{sizes_of}
use Rattle.record.specs.declared.Record.{Record}
use Rattle.table.specs.Given.{given, formatted_records}
use Rattle.rules.specs.Recover.{recover_outcome}
use Rattle.rules.specs.Links.{one_ring}
use Rattle.rules.specs.Volume.{volume}
use Rattle.rules.specs.cases.Recover.{recover_on, committed_in, table2, table4}

-- the answer and the links of recover, on 8 slots that hold these records; and the committed versions too
unfoldable pub links_on : ℕ → List Record → List ℕ
links_on P records = let o = recover_on P records in o.answer ∷ o.second ∷ []

unfoldable pub links_and_versions : ℕ → List Record → List ℕ
links_and_versions P records = let o = recover_on P records in o.answer ∷ o.second ∷ committed_in P o

-- the answer and the links on the one-ring table of P pages and S slots
unfoldable pub links_on_ring : (P S : ℕ) → List ℕ
links_on_ring P S = let o = recover_outcome two_widths (sizes_of P S 32) (volume (one_ring FiveWords P S) (replicate (32 * S) 0) (replicate (4 * P) 7)) in o.answer ∷ o.second ∷ []

-- Cases 1 to 5 and 11: a page that links to itself has 1 link, as has one whose own link decides; two in a ring have 2 each; in case 11 page 0 goes on to
-- page 1, whose link decides. Then a ring of pages 0 and 1 beside page 2, which links to itself; and, with the committed versions, chains: of four pages, the
-- last with a link to a version that is not there; of two before a link that is straddled; and of two before one to a version that was replaced. Refused by 4
-- and 14 (cases 9 and 10), by 3, for equal versions and for a page without a record, by 2 and by 1: 0. Of twins the lowest slot is followed. Last, one-ring tables, their words and their links.
unfoldable pub link_rows : List Row
link_rows =
    row 6 (links_on 1 (formatted_records 1)) (0 ∷ 1 ∷ [])
    ∷ row 6 (links_on 2 table2) (0 ∷ 2 ∷ [])
    ∷ row 6 (links_on 2 (table2 ++ given 1 1 0 0 1 ∷ [])) (0 ∷ 4 ∷ [])
    ∷ row 6 (links_on 3 table4) (0 ∷ 5 ∷ [])
    ∷ row 6 (links_on 3 (given 0 1 0 1 1 ∷ given 1 2 1 2 1 ∷ given 2 1 0 1 2 ∷ [])) (0 ∷ 5 ∷ [])
    ∷ row 6 (links_on 2 (table2 ++ given 1 1 0 0 2 ∷ [])) (0 ∷ 3 ∷ [])
    ∷ row 6 (links_on 3 (table2 ++ given 1 1 0 0 1 ∷ given 2 0 0 2 0 ∷ [])) (0 ∷ 5 ∷ [])
    ∷ row 6
    (links_and_versions 4 (formatted_records 4 ++ given 0 1 0 1 1 ∷ given 1 1 0 2 1 ∷ given 2 1 0 3 1 ∷ given 3 1 0 0 2 ∷ []))
    (0 ∷ 10 ∷ 0 ∷ 0 ∷ 0 ∷ 0 ∷ [])
    ∷ row 6 (links_and_versions 3 (formatted_records 3 ++ given 0 1 0 1 1 ∷ given 1 1 0 2 1 ∷ given 2 2 0 2 2 ∷ [])) (0 ∷ 4 ∷ 0 ∷ 0 ∷ 2 ∷ [])
    ∷ row 6 (links_and_versions 3 (given 0 1 0 1 1 ∷ given 1 1 0 2 1 ∷ given 2 2 1 2 2 ∷ [])) (0 ∷ 4 ∷ 1 ∷ 1 ∷ 2 ∷ [])
    ∷ row 6 (links_on 3 (given 0 1 0 1 1 ∷ given 1 1 0 2 1 ∷ given 2 1 0 1 1 ∷ [])) (4 ∷ 0 ∷ [])
    ∷ row 6 (links_on 2 (given 0 2 1 1 5 ∷ given 1 0 0 1 0 ∷ [])) (14 ∷ 0 ∷ [])
    ∷ row 6 (links_on 2 (table2 ++ given 0 1 0 0 1 ∷ [])) (3 ∷ 0 ∷ [])
    ∷ row 6 (links_on 1 (formatted_records 1 ++ formatted_records 1)) (0 ∷ 1 ∷ [])
    ∷ row 6 (links_on 2 (formatted_records 1)) (3 ∷ 0 ∷ [])
    ∷ row 6 (links_on 1 (formatted_records 2)) (2 ∷ 0 ∷ [])
    ∷ row 6 (links_on 9 (formatted_records 8)) (1 ∷ 0 ∷ [])
    ∷ row 6 (one_ring FiveWords 1 1) (0 ∷ 1 ∷ 0 ∷ 0 ∷ 1 ∷ [])
    ∷ row 6 (one_ring FiveWords 3 4) (0 ∷ 1 ∷ 0 ∷ 1 ∷ 1 ∷ 1 ∷ 1 ∷ 0 ∷ 2 ∷ 1 ∷ 2 ∷ 1 ∷ 0 ∷ 0 ∷ 1 ∷ replicate 5 no_number)
    ∷ row 6 (links_on_ring 1 1 ++ (links_on_ring 2 2 ++ (links_on_ring 3 4 ++ links_on_ring 5 8))) (0 ∷ 1 ∷ 0 ∷ 4 ∷ 0 ∷ 9 ∷ 0 ∷ 25 ∷ [])
    ∷ []

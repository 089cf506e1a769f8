-- Document 01's cases 1 to 12 (★) as one table, with one theorem.
use Rattle.std.specs.Prelude.{ℕ, ◌*◌, List, [], ◌∷◌, ◌++◌, replicate}
use Rattle.bounded.specs.Limits.{two_widths}
use Rattle.bounded.specs.Parts.{part}
use Rattle.outcome.specs.Outcome.{Outcome}
use Rattle.outcome.specs.Row.{Row, row}
use Rattle.sizes.specs.Sizes.{sizes_of}
use Rattle.table.specs.Given.{table_of}
use Rattle.rules.specs.Volume.{Volume}
use Rattle.rules.specs.Launch.{launch_outcome}
use Rattle.rules.specs.Write.{write_outcome}
use Rattle.rules.specs.cases.Launch.{launch_rows}
use Rattle.rules.specs.cases.Erase.{erase_rows}
use Rattle.rules.specs.cases.Recover.{recover_on, table4, recovery_rows}

-- "case 4 recovered, then page 1 alone launched and written": the outcomes of the three calls
unfoldable pub recovered4 : Outcome (List ℕ)
recovered4 = recover_on 3 table4

unfoldable pub launched6 : Outcome (List ℕ)
launched6 = launch_outcome two_widths (sizes_of 3 8 32) recovered4.left (1 ∷ [])

-- the volume of case 4, with a state
unfoldable pub volume4 : List ℕ → Volume
volume4 state = record { flash = record { words = table_of 8 table4; contents = replicate (32 * 8) 0 }; state = state }

-- slot 6 is the lowest blank one; the bytes may be any
unfoldable pub written6 : Outcome Volume
written6 = write_outcome two_widths (sizes_of 3 8 32) (volume4 launched6.left) 1 6 (replicate 32 3)

-- Case 6's three answers, done, and the words of the record written, "(1,3,2,1,3)"; then cases 6 to 8 on the volume that is left.
unfoldable pub rows6 : (recovered launched : Outcome (List ℕ)) (written : Outcome Volume) → List Row
rows6 recovered launched written =
    row 6
    (recovered.answer ∷ launched.answer ∷ written.answer ∷ written.second ∷ part 5 6 written.left.flash.words)
    (0 ∷ 0 ∷ 0 ∷ 1 ∷ 1 ∷ 3 ∷ 2 ∷ 1 ∷ 3 ∷ [])
    ∷ erase_rows written.left

-- Cases 1 to 12: 1 to 5 and 9 to 11, then 6 to 8 on the volume that the calls of case 6 leave, then 12.
unfoldable pub star_table : List Row
star_table = recovery_rows ++ (rows6 recovered4 launched6 written6 ++ launch_rows)

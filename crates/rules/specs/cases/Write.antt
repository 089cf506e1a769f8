-- What launch and write store of a ring of two: the records that document 01's cases 2 and 3 add to the formatted ones.
use Rattle.std.specs.Prelude.{List, [], ◌∷◌, replicate}
use Rattle.bounded.specs.Limits.{two_widths}
use Rattle.bounded.specs.Parts.{part}
use Rattle.outcome.specs.Outcome.{Outcome}
use Rattle.outcome.specs.Row.{Row, row}
use Rattle.sizes.specs.Sizes.{sizes_of}
use Rattle.rules.specs.Volume.{Volume}
use Rattle.rules.specs.Format.{formatted}
use Rattle.rules.specs.Launch.{launch_outcome}
use Rattle.rules.specs.Write.{write_outcome}

-- a formatted volume of 2 pages and 4 slots on which pages 0 and 1 are launched
unfoldable pub launched2 : Volume
launched2 = record { flash = (formatted (sizes_of 2 4 32)).flash; state = (launch_outcome two_widths (sizes_of 2 4 32) (formatted (sizes_of 2 4 32)).state (0 ∷ 1 ∷ [])).left }

-- page 0 is written into slot 2, then page 1 into slot 3
unfoldable pub first2 : Outcome Volume
first2 = write_outcome two_widths (sizes_of 2 4 32) launched2 0 2 (replicate 32 3)

unfoldable pub second2 : Outcome Volume
second2 = write_outcome two_widths (sizes_of 2 4 32) first2.left 1 3 (replicate 32 3)

-- the answer, done, and the words of the slot written
unfoldable pub write_rows : List Row
write_rows =
    row 2 (first2.answer ∷ first2.second ∷ part 5 2 first2.left.flash.words) (0 ∷ 0 ∷ 0 ∷ 1 ∷ 0 ∷ 1 ∷ 1 ∷ [])
    ∷ row 3 (second2.answer ∷ second2.second ∷ part 5 3 second2.left.flash.words) (0 ∷ 1 ∷ 1 ∷ 1 ∷ 0 ∷ 0 ∷ 1 ∷ [])
    ∷ []

-- Document 02, wish 10: "Count … takes a slice of 32 or 64 bytes", "drawn may reach 512", through count's whole outcome.
use Rattle.std.specs.Prelude.{ℕ, refl, List, [], ◌∷◌, ◌++◌, map, replicate}
use Rattle.bounded.specs.Limits.{two_widths}
use Rattle.bounded.specs.Parts.{join_parts}
use Rattle.bounded.specs.Computing.{computing as bounded_computing}
use Rattle.outcome.specs.Computing.{computing as outcome_computing}
use Rattle.outcome.specs.Row.{Row, row, RowsHold}
use Rattle.bits.specs.Bits.{bit_at, set_bits, count_answer, count_outcome}

-- the answer and the count of these bytes
unfoldable pub counted : List ℕ → List ℕ
counted bytes = (count_outcome two_widths bytes).answer ∷ (count_outcome two_widths bytes).second ∷ []

-- so many bytes 255: their answer
unfoldable pub answered : ℕ → ℕ
answered n = (count_outcome two_widths (replicate n 255)).answer

-- All drawn, of either length; document 01's fill 3; bytes 0 to 63, each once; one bit of the last byte; and other lengths.
unfoldable pub count_rows : List Row
count_rows =
    row 10 (counted (replicate 32 255)) (0 ∷ 256 ∷ [])
    ∷ row 10 (counted (replicate 64 255)) (0 ∷ 512 ∷ [])
    ∷ row 10 (counted (replicate 63 0 ++ 128 ∷ [])) (0 ∷ 1 ∷ [])
    ∷ row 10 (counted (replicate 32 3)) (0 ∷ 64 ∷ [])
    ∷ row 10 (counted (replicate 64 3)) (0 ∷ 128 ∷ [])
    ∷ row 10 (counted (join_parts 64 (λ i. i ∷ []))) (0 ∷ 192 ∷ [])
    ∷ row 10 (counted (replicate 33 255)) (1 ∷ 0 ∷ [])
    ∷ row 10 (map answered (0 ∷ 16 ∷ 31 ∷ 33 ∷ 63 ∷ 65 ∷ 96 ∷ 128 ∷ 256 ∷ 512 ∷ [])) (replicate 10 1)
    ∷ []

pub count_rows_lem : RowsHold count_rows
unfolding count_rows counted answered two_widths bit_at set_bits count_answer count_outcome bounded_computing outcome_computing
count_rows_lem = refl

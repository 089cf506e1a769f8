-- The line under document 01's cases: the bounds of P and S, through format's whole outcome.
use Rattle.std.specs.Prelude.{ℕ, ◌*◌, List, [], ◌∷◌, replicate}
use Rattle.bounded.specs.Limits.{two_widths}
use Rattle.outcome.specs.Row.{Row, row}
use Rattle.sizes.specs.Sizes.{sizes_of}
use Rattle.rules.specs.Volume.{Volume}
use Rattle.rules.specs.Format.{format_outcome}

-- buffers of the lengths that P and S ask for
unfoldable pub buffers : (P S : ℕ) → Volume
buffers P S = record { flash = record { words = replicate (5 * S) 7; contents = replicate (32 * S) 7 }; state = replicate (4 * P) 7 }

-- format's answer on them
unfoldable pub format_on : (P S : ℕ) → List ℕ
format_on P S = (format_outcome two_widths (sizes_of P S 32) (buffers P S)).answer ∷ []

-- "P 0 or 257, S 1,025 or P-1: 1. P=256, S=1,024 formats."
unfoldable pub bound_rows : List Row
bound_rows =
    row 0 (format_on 0 4) (1 ∷ [])
    ∷ row 0 (format_on 257 300) (1 ∷ [])
    ∷ row 0 (format_on 4 1025) (1 ∷ [])
    ∷ row 0 (format_on 4 3) (1 ∷ [])
    ∷ row 0 (format_on 256 1024) (0 ∷ [])
    ∷ []

-- The fills entered for pages, as the definitions have them: a number for each page, no_number where nothing is entered.
use Rattle.std.specs.Prelude.{ℕ, List, map, Option, None, Some}
use Rattle.bounded.specs.Limits.{no_number}

unfoldable pub fill_of : Option ℕ → ℕ
fill_of None = no_number
fill_of (Some fill) = fill

-- of each page
unfoldable pub fills_of : List (Option ℕ) → List ℕ
fills_of entered = map fill_of entered

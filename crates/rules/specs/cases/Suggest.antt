-- The slot that suggest names, through its whole outcome, on volumes of document 01's cases.
use Rattle.std.specs.Prelude.{ℕ, List, [], ◌∷◌}
use Rattle.bounded.specs.Limits.{no_number, two_widths}
use Rattle.outcome.specs.Row.{Row, row}
use Rattle.sizes.specs.declared.Sizes.{Sizes}
use Rattle.sizes.specs.Sizes.{sizes_of}
use Rattle.rules.specs.Volume.{Volume}
use Rattle.rules.specs.Suggest.{suggest_outcome}
use Rattle.rules.specs.cases.Erase.{volume6}
use Rattle.rules.specs.cases.Write.{first2, second2}

-- suggest's answer and slot
unfoldable pub suggest_on : Sizes → Volume → List ℕ
suggest_on sizes v = let o = suggest_outcome two_widths sizes v in o.answer ∷ o.second ∷ []

-- Case 2 in flight: nothing may be erased. Case 3: slots 0 and 1 may. Case 6's volume: slots 1, 2 and 3 may.
unfoldable pub suggest_rows : List Row
suggest_rows =
    row 2 (suggest_on (sizes_of 2 4 32) first2.left) (13 ∷ no_number ∷ [])
    ∷ row 3 (suggest_on (sizes_of 2 4 32) second2.left) (0 ∷ 0 ∷ [])
    ∷ row 6 (suggest_on (sizes_of 3 8 32) volume6) (0 ∷ 1 ∷ [])
    ∷ []

-- The lowest and highest versions so far.
use Rattle.std.specs.Prelude.{ℕ, ◌+◌, ◌*◌, min, max, List, [], ◌∷◌, Bool, cond, get_or}
use Rattle.bounded.specs.Limits.{Widths}
use Rattle.bounded.specs.Parts.{join_parts}
use Rattle.sizes.specs.declared.Sizes.{Sizes}
use Rattle.record.specs.Flash.{Flash}
use Rattle.state.specs.State.{state_at}
use Rattle.upkeep.specs.Doubtful.{absent_in, filled_with, recovery_of, recovers}

-- a version noted, the first or one more: the lowest, and the highest
unfoldable pub lowest_noted : (first : Bool) → (so_far version : ℕ) → ℕ
lowest_noted first so_far version = cond first version (min so_far version)

unfoldable pub highest_noted : (first : Bool) → (so_far version : ℕ) → ℕ
highest_noted first so_far version = cond first version (max so_far version)

-- a page's two words, its version by the state being noted
unfoldable pub page_noted : (first : Bool) → (state out : List ℕ) → (p : ℕ) → List ℕ
page_noted first state out p = lowest_noted first (get_or out (2 * p) 0) (state_at state p).committed ∷ highest_noted first (get_or out (2 * p + 1) 0) (state_at state p).committed ∷ []

-- each page's
unfoldable pub versions_noted : (P : ℕ) → (first : Bool) → (state out : List ℕ) → List ℕ
versions_noted P first state out = join_parts P (page_noted first state out)

-- the versions of filling m, noted where its recovery succeeds
unfoldable pub filling_noted : Widths → Sizes → Flash → (slots : List ℕ) → (m : ℕ) → (first : Bool) → (out : List ℕ) → List ℕ
filling_noted widths sizes f slots m first out =
    cond (recovers widths sizes f slots m) (versions_noted sizes.pages first (recovery_of widths sizes (filled_with sizes.width f (absent_in slots m))).left out) out

-- The lines of a text: each ends with a line end (byte 10).
use Rattle.std.specs.Prelude.{ℕ, List, [], ◌∷◌, cond, eqb}

-- the lines of a text with this byte, no line end, before it
unfoldable pub onto : ℕ → List (List ℕ) → List (List ℕ)
onto b [] = (b ∷ []) ∷ []
onto b (line ∷ lines) = (b ∷ line) ∷ lines

-- where the last may lack its line end
unfoldable pub lines_of : List ℕ → List (List ℕ)
lines_of [] = []
lines_of (b ∷ text) = cond (eqb b 10) ([] ∷ lines_of text) (onto b (lines_of text))

-- where what is behind the last line end stands behind them: nothing, if each has its own
unfoldable pub lines_in : List ℕ → List (List ℕ)
lines_in [] = [] ∷ []
lines_in (b ∷ text) = cond (eqb b 10) ([] ∷ lines_in text) (onto b (lines_in text))

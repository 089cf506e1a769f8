-- Text added to a buffer.
use Rattle.std.specs.Prelude.{ℕ, zero, suc, ◌+◌, ◌/◌, ◌%◌, List, [], ◌∷◌, ◌++◌, cond, ltb, length, take}

-- what a buffer holds before the place `at`
unfoldable pub shown : List ℕ → ℕ → List ℕ
shown out at = take at out

-- that and a text behind it, as far as the buffer has room
unfoldable pub added : List ℕ → ℕ → List ℕ → List ℕ
added out at text = take (length out) (shown out at ++ text)

-- the last digits of n, at most k of them, without a zero before the first
unfoldable pub decimal_in : (k n : ℕ) → List ℕ
decimal_in zero n = []
decimal_in (suc k) n = cond (ltb n 10) ((48 + n) ∷ []) (decimal_in k (n / 10) ++ ((48 + n % 10) ∷ []))

-- a number of 32 bits in decimal
unfoldable pub decimal : ℕ → List ℕ
decimal n = decimal_in 10 n

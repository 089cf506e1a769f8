-- What stands at the front of a text: a given text, or a decimal number. A text is its bytes.
use Rattle.std.specs.Prelude.{ℕ, zero, suc, ◌+◌, ◌*◌, ◌-◌, List, [], ◌∷◌, Bool, cond, ◌&&◌, leb, eqb, Option as Given, Some, None}
use Prim.Native.Char.{code}
use Prim.Native.String.{String, [] as empty, ◌∷◌ as ◌then◌}
use Rattle.std.proofs.Math.Option.{Option, none, some}
use denote.Ref.{Bor}

-- a text of ASCII characters as its bytes
unfoldable pub bytes : String → List ℕ
bytes empty = []
bytes (c then s) = code c ∷ bytes s

-- what is behind `text` in s, where s begins with it
unfoldable pub behind : (text s : List ℕ) → Option (List ℕ)
behind [] s = some s
behind (t ∷ text) [] = none
behind (t ∷ text) (b ∷ s) = cond (eqb b t) (behind text s) none

-- a number, and what is behind it
pub record Scanned : Type 0 where
  pub value : ℕ
  pub rest : List ℕ

abbrev pub scanned : ℕ → List ℕ → Scanned
scanned value rest = record { value = value; rest = rest }

-- "numbers are at most 4,294,967,295"
unfoldable pub max_number : ℕ
max_number = 4294967295

-- the bytes of '0' to '9'
unfoldable pub is_digit : ℕ → Bool
is_digit b = leb 48 b && leb b 57

-- The number that has this value by its n digits, with s behind it: none without a digit, and none above the highest.
unfoldable pub end_number : (n value : ℕ) (s : List ℕ) → Option Scanned
unfolding max_number
end_number zero value s = none
end_number (suc n) value s = cond (leb value max_number) (some (scanned value s)) none

-- the number that has this value by its first n digits, and whose further digits are at the front of s
unfoldable pub number_from : (n value : ℕ) (s : List ℕ) → Option Scanned
number_from n value [] = end_number n value []
number_from n value (b ∷ s) = cond (is_digit b) (number_from (suc n) (10 * value + (b - 48)) s) (end_number n value (b ∷ s))

-- "decimal numbers": the one at the front of s, as far as its digits go
unfoldable pub number : List ℕ → Option Scanned
number s = number_from 0 0 s

-- what the program gives back of a number: its value, and what is behind it
abbrev pub scanned_of : Given (ℕ × Bor (List ℕ)) → Option Scanned
scanned_of None = none
scanned_of (Some n) = some (scanned n.0 n.1.now)

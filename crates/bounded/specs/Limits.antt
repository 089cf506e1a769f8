-- Document 01's numbers, and the widths of document 02.
use Rattle.std.specs.Prelude.{ℕ, Bool, ◌||◌, eqb}

-- "P pages (pistons), 1 to 256"
abbrev pub max_pages : ℕ
max_pages = 256

-- "S slots, P to 1,024"
abbrev pub max_slots : ℕ
max_slots = 1024

-- Which widths are allowed: the width is the number of bytes of contents that a slot has, and of the slice that count takes. What a call answers, gives
-- and leaves takes them as a parameter, and so do the theorems on it.
abbrev pub Widths : Type 0
Widths = ℕ → Bool

-- Document 02: "A volume's contents are 32 or 64 bytes per slot". The calls take these two.
unfoldable pub two_widths : Widths
two_widths w = eqb w 32 || eqb w 64

-- "4,294,967,295 in all five words" of a blank slot; in the state "4,294,967,295: not in flight"; the slot that a refused suggest names
abbrev pub no_number : ℕ
no_number = 4294967295

-- "v, c and nv are at most 4,294,967,294", "used is at most 4,294,967,294"
abbrev pub highest_version : ℕ
highest_version = 4294967294

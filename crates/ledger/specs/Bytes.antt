-- A ledger of 32-bit numbers whose fills are bytes.
use Rattle.std.specs.Prelude.{ℕ, ◌<◌, ◌≡◌, List, get_or}
use Rattle.bounded.specs.Limits.{no_number}

-- what is kept of a page is a byte
abbrev pub IsByte : (kept : ℕ) → Type 0
IsByte kept = kept < 256

-- what is entered for a page is a byte, where anything is
abbrev pub IsByteOrNone : (entered : ℕ) → Type 0
IsByteOrNone entered = ¬ (entered ≡ no_number) → entered < 256

-- the same of every page
abbrev pub KeptBytes : (kept : List ℕ) → Type 0
KeptBytes kept = (page : ℕ) → IsByte (get_or kept page 0)

abbrev pub EnteredBytes : (entered : List ℕ) → Type 0
EnteredBytes entered = (page : ℕ) → IsByteOrNone (get_or entered page 0)

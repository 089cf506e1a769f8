-- Laws of the page: what its lines say, and how long it is.
use Rattle.std.specs.Prelude.{ℕ, ◌+◌, ◌*◌, ◌≤◌, ◌<◌, ◌≡◌, replicate}
use mathlib.Core.List.{List, [], ◌∷◌, map}
use Rattle.std.proofs.Math.Bool.{true}
use Rattle.std.proofs.Math.ListN.{length}
use Rattle.fleet.specs.declared.Figures.{Figures}
use Rattle.fleet.specs.Entry.{Entry, Counted, Refused}
use Rattle.fleet.specs.Page.{volume_lines}
use Rattle.fleet.specs.Shown.{cells_of, is_plain, all_cells}

-- ---- how large the figures are

-- the slots of a volume are at most 1,024, and so are its pages
abbrev pub most_counted : ℕ
most_counted = 1024

pub record Within (most : ℕ) (f : Figures) : Type 0 where
  pub pages_in_lem : f.pages ≤ most
  pub obsolete_in : f.obsolete ≤ most
  pub exposed_in : f.exposed ≤ most
  pub needed_in : f.needed ≤ most

-- a refusal is at most 14
abbrev pub SmallEntry : Entry → Type 0
SmallEntry (Counted f) = Within most_counted f
SmallEntry (Refused a) = a ≤ 14

abbrev pub AllSmall : List Entry → Type 0
AllSmall [] = Unit {0}
AllSmall (e ∷ entries) = SmallEntry e × AllSmall entries

-- ---- the mean

pub record Divided (sum n whole remainder : ℕ) : Type 0 where
  pub none_counted : n ≡ 0 → (whole ≡ 0) × (remainder ≡ 0)
  pub divides : 0 < n → (n * whole + remainder ≡ sum) × (remainder < n)
  pub whole_most : whole ≤ sum
  pub remainder_most : remainder ≤ sum

-- ---- the page

-- the lines of the volumes
pub record VolumeLines (number : ℕ) (entries : List Entry) : Type 0 where
  pub long : map length (volume_lines number entries) ≡ replicate (length entries) 72
  pub plain : map is_plain (volume_lines number entries) ≡ replicate (length entries) true
  pub tells : map cells_of (volume_lines number entries) ≡ all_cells number entries

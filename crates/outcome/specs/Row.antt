-- A row of a table of worked cases: the number of the case or request, what the definitions give, and what the document states or asks for.
use Rattle.std.specs.Prelude.{ℕ, ◌≡◌, List, ◌++◌, map}
use Rattle.std.proofs.Common.{sym, ap₂, ◌∙◌}
use mathlib.Core.List.{map-append}

pub record Row : Type 0 where
  pub number : ℕ
  pub found : List ℕ
  pub stated : List ℕ

abbrev pub row : ℕ → List ℕ → List ℕ → Row
row n found stated = record { number = n; found = found; stated = stated }

-- in each row what is found is what is stated
abbrev pub RowsHold : List Row → Type 0
RowsHold rows = map (λ (r : Row). r.found) rows ≡ map (λ (r : Row). r.stated) rows

-- two tables that hold, joined
pub rows_join : (a b : List Row) → RowsHold a → RowsHold b → RowsHold (a ++ b)
rows_join a b h k = map-append (λ (r : Row). r.found) a b ∙ ap₂ ◌++◌ h k ∙ sym (map-append (λ (r : Row). r.stated) a b)

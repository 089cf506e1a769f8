-- The slot of a page's highest record, as a number. "No slot" is a number too, the table's count of slots.
use Prim.Native.Nat.{ℕ, zero, suc}
use Rattle.std.specs.Prelude.{◌<◌, ◌≡◌, List, cond, ltb, length, get_or, Option}
use Rattle.record.specs.Slot.{Slot}
use Rattle.std.specs.Prelude.{None, Some}
use Rattle.record.specs.Slot.{holds}
use Rattle.table.specs.Table.{better, highest}

-- what a slot number names in a table of S slots: the slot, or blank where it is no slot
unfoldable pub named : ℕ → (ℕ → Slot) → ℕ → Slot
named S t k = cond (ltb k S) (t k) None

-- the slot below n of page p's highest record; S where it has none there
unfoldable pub highest_slot : ℕ → ℕ → (ℕ → Slot) → ℕ → ℕ
highest_slot S zero t p = S
highest_slot S (suc n) t p = cond (holds (better p (highest n t p)) (t n)) n (highest_slot S n t p)

-- the number of an entry in a table of S slots: its slot, or S where it is none
abbrev pub entry_of : ℕ → Option ℕ → ℕ
entry_of S None = S
entry_of S (Some k) = k

-- each page's entry has the number of the slot below n of its highest record, and a slot in an entry is one of the table
pub record HighestBelow (S n : ℕ) (t : ℕ → Slot) (top : List (Option ℕ)) : Type 0 where
  pub sized : length top ≡ 256
  pub entry : (p : ℕ) → p < 256 → entry_of S (get_or top p None) ≡ highest_slot S n t p
  pub inside : (p k : ℕ) → get_or top p None ≡ Some k → k < S

-- What the rules for records without a back pointer say as propositions: the second highest version, what may be erased, what a write would bury.
use Rattle.std.specs.Prelude.{ℕ, ◌<◌, ◌≡◌, ◌⊎◌}
use Rattle.record.specs.declared.Record.{Record}
use Rattle.record.specs.Slot.{Slot}
use Rattle.std.specs.Prelude.{Some}
use Rattle.state.specs.declared.PageState.{PageState}
use Rattle.table.specs.Table.{highest_version_of}
use Rattle.rules.specs.laws.Permission.{Exposed}

-- ---- the second highest version

module _ (S : ℕ) (t : ℕ → Slot) (p : ℕ) where
  -- r is a record of page p below hv(p), in a slot below S
  abbrev pub BelowHighest : Record → Type 0
  BelowHighest r = (k : ℕ) × (k < S) × (t k ≡ Some r) × (r.p ≡ p) × (r.v < highest_version_of S t p)

-- ---- writing

-- "an exposed record with J.p = p and J.v < v, or J.np = p and J.nv < v"
abbrev pub BuriedBy : (ℕ → PageState) → (p v : ℕ) → Record → Type 0
BuriedBy st p v J = Exposed st J × (((J.p ≡ p) × (J.v < v)) ⊎ ((J.np ≡ p) × (J.nv < v)))

-- "May be erased" is exactly document 01's sentence, as a proposition; and so is what document 02 says of a slot with twins.
use Rattle.std.specs.Prelude.{ℕ, ◌<◌, ◌≡◌, ◌⊎◌, Bool, true, false}
use Rattle.record.specs.declared.Record.{Record}
use Rattle.record.specs.Slot.{Slot}
use Rattle.std.specs.Prelude.{Some}
use Rattle.record.specs.SlotLaws.{Straddles}
use Rattle.state.specs.declared.PageState.{PageState}
use Rattle.state.specs.State.{in_flight}
use Rattle.rules.specs.Permission.{Scene}

module _ (st : ℕ → PageState) (r : Record) where
  -- "A record is obsolete if v is below its page's committed version, exposed if above."
  abbrev pub Obsolete : Type 0
  Obsolete = r.v < (st r.p).committed

  abbrev pub Exposed : Type 0
  Exposed = (st r.p).committed < r.v

  -- "an exposed record other than one whose page is in flight with v = used"
  abbrev pub ExposedSpare : Type 0
  ExposedSpare = Exposed × ¬ ((in_flight (st r.p) ≡ true) × (r.v ≡ (st r.p).used))

-- document 01's sentences, over the slots of a table
module _ (S : ℕ) (t : ℕ → Slot) (st : ℕ → PageState) where
  -- "no record has the same page and c with a higher v, and some exposed record's link is straddled by K"
  pub record Needed (K : Record) : Type 0 where
    pub furthest : (k : ℕ) (r : Record) → k < S → t k ≡ Some r → r.p ≡ K.p → r.c ≡ K.c → K.v < r.v → ⊥
    pub supports : (k : ℕ) × (r : Record) × (k < S) × (t k ≡ Some r) × (Exposed st r × Straddles K r)

  -- "an obsolete record that is no needed straddler, or an exposed record other than one whose page is in flight with v = used"
  abbrev pub Erasable : Record → Type 0
  Erasable r = (Obsolete st r × ¬ (Needed r)) ⊎ ExposedSpare st r

  -- the slot holds such a record
  abbrev pub ErasableAt : ℕ → Type 0
  ErasableAt k = (r : Record) × (t k ≡ Some r) × Erasable r

-- whatever is looked at
module _ (s : Scene) where
  -- a slot "whose twin is outside the erase list"
  abbrev pub TwinOutside : (in_list : ℕ → Bool) (k : ℕ) → Type 0
  TwinOutside in_list k = (j : ℕ) × (j < s.slots) × (s.twin j k ≡ true) × (in_list j ≡ false)

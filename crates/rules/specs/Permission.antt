-- Document 01, "When a slot may be erased"; and document 02, wish 1, what a slot's twins change.
use Rattle.std.specs.Prelude.{ℕ, List, [], ◌∷◌, Bool, false, not, ◌&&◌, ◌||◌, ltb, eqb, length, get_or}
use Rattle.bounded.specs.Below.{all_below, some_below}
use Rattle.sizes.specs.declared.Sizes.{Sizes}
use Rattle.sizes.specs.Sizes.{listed}
use Rattle.record.specs.declared.Record.{Record}
use Rattle.record.specs.Slot.{Slot}
use Rattle.record.specs.Slot.{holds, some_record, straddles}
use Rattle.state.specs.declared.PageState.{PageState}
use Rattle.state.specs.State.{in_flight}
use Rattle.twins.specs.Twins.{twins}
use Rattle.rules.specs.Volume.{Volume, slots_of, pages_of}

-- "A record is obsolete if v is below its page's committed version"
unfoldable pub is_obsolete : (ℕ → PageState) → Record → Bool
is_obsolete st r = ltb r.v (st r.p).committed

-- "exposed if above"
unfoldable pub is_exposed : (ℕ → PageState) → Record → Bool
is_exposed st r = ltb (st r.p).committed r.v

-- "one whose page is in flight with v = used"
unfoldable pub is_current : (ℕ → PageState) → Record → Bool
is_current st r = in_flight (st r.p) && eqb r.v (st r.p).used

-- What a permission looks at: the slots of a table, the state, which slots are twins, and how exposed records are looked for.
pub record Scene : Type 0 where
  pub slots : ℕ
  pub table : ℕ → Slot
  pub state : ℕ → PageState
  pub twin : (j k : ℕ) → Bool
  -- some exposed record passes the test
  pub some_exposed : (Record → Bool) → Bool

-- … looked for among all S slots
abbrev pub scene : (S : ℕ) → (ℕ → Slot) → (ℕ → PageState) → (twin : ℕ → ℕ → Bool) → Scene
scene S t st twin = record { slots = S; table = t; state = st; twin = twin; some_exposed = λ f. some_record S t (λ r. is_exposed st r && f r) }

-- … of a volume
abbrev pub scene_of : Sizes → Volume → Scene
scene_of sizes v = scene sizes.slots (slots_of v) (pages_of v) (twins sizes.width v.flash)

-- … where no slots are twins
abbrev pub no_twins : (j k : ℕ) → Bool
no_twins j k = false

abbrev pub untwinned : (S : ℕ) → (ℕ → Slot) → (ℕ → PageState) → Scene
untwinned S t st = scene S t st no_twins

-- ---- one slot

-- a record with "the same page and c with a higher v" than K
unfoldable pub outdone_by : (K r : Record) → Bool
outdone_by K r = eqb r.p K.p && (eqb r.c K.c && ltb K.v r.v)

-- "An obsolete K is needed if no record has the same page and c with a higher v, and some exposed record's link is straddled by K."
unfoldable pub is_needed : Scene → Record → Bool
is_needed s K = not (some_record s.slots s.table (outdone_by K)) && s.some_exposed (straddles K)

-- "an obsolete record that is no needed straddler, or an exposed record other than one whose page is in flight with v = used"
unfoldable pub may_erase_record : Scene → Record → Bool
may_erase_record s r = (is_obsolete s.state r && not (is_needed s r)) || (is_exposed s.state r && not (is_current s.state r))

-- "A slot may be erased if it holds" such a record
unfoldable pub may_erase : Scene → ℕ → Bool
may_erase s k = holds (may_erase_record s) (s.table k)

-- ---- lists of slots: `in_list j` says that slot j is in "the erase list"

-- a listed slot k "whose twin is outside the erase list" (a slot that holds a record is its own twin, and is listed)
unfoldable pub twin_outside : Scene → (in_list : ℕ → Bool) → ℕ → Bool
twin_outside s in_list k = some_below s.slots (λ j. s.twin j k && not (in_list j))

-- "A slot whose twin is outside the erase list may always be erased, and if all twins are listed the old rule judges them"
unfoldable pub may_erase_from : Scene → (in_list : ℕ → Bool) → ℕ → Bool
may_erase_from s in_list k = twin_outside s in_list k || may_erase s k

-- "The permission is judged for every slot on the table before the call": each listed slot may be erased.
unfoldable pub may_erase_all : Scene → (slots : List ℕ) → Bool
may_erase_all s slots = all_below (length slots) (λ i. may_erase_from s (listed slots) (get_or slots i 0))

-- "suggest judges a list of one"
unfoldable pub may_erase_alone : Scene → ℕ → Bool
may_erase_alone s k = may_erase_from s (listed (k ∷ [])) k

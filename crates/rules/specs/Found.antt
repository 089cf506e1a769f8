-- Document 02, wish 2: what a search for the exposed records finds, and what is looked at where they are those found.
use Rattle.std.specs.Prelude.{ℕ, List, length, get_or}
use Rattle.bounded.specs.Below.{some_below, list_below}
use Rattle.record.specs.Slot.{Slot}
use Rattle.record.specs.Slot.{holds}
use Rattle.state.specs.declared.PageState.{PageState}
use Rattle.rules.specs.Permission.{is_exposed, Scene}

-- what is found: the slots of the table that hold an exposed record, rising
unfoldable pub exposed_slots : ℕ → (ℕ → Slot) → (ℕ → PageState) → List ℕ
exposed_slots S t st = list_below S (λ k. holds (is_exposed st) (t k))

-- the same scene, exposed records being looked for among the slots found
unfoldable pub by_found : Scene → (found : List ℕ) → Scene
by_found s found = record { slots = s.slots; table = s.table; state = s.state; twin = s.twin; some_exposed = λ f. some_below (length found) (λ i. holds f (s.table (get_or found i 0))) }

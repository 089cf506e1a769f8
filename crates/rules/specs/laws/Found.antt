-- Document 02, wish 2: "what is found is every exposed record and no other, and … judging by it is the rule's permission for any list".
use Rattle.std.specs.Prelude.{ℕ, ◌<◌, ◌≡◌, ◌↔◌, List, Bool, length, get_or}
use Rattle.record.specs.declared.Record.{Record}
use Rattle.record.specs.Slot.{Slot}
use Rattle.std.specs.Prelude.{Some}
use Rattle.state.specs.declared.PageState.{PageState}
use Rattle.rules.specs.Permission.{scene, may_erase_all}
use Rattle.rules.specs.Found.{exposed_slots, by_found}
use Rattle.rules.specs.laws.Permission.{Exposed}

-- a number is found exactly where it is a slot of the table that holds an exposed record
abbrev pub FoundExactly : Type 0
FoundExactly =
    (S : ℕ) (t : ℕ → Slot) (st : ℕ → PageState) (k : ℕ)
    → ((i : ℕ) × (i < length (exposed_slots S t st)) × (get_or (exposed_slots S t st) i 0 ≡ k)) ↔ ((k < S) × ((r : Record) × (t k ≡ Some r) × Exposed st r))

-- judged by what is found, a list may be erased exactly where the rule permits it
abbrev pub JudgedByFound : Type 0
JudgedByFound = (S : ℕ) (t : ℕ → Slot) (st : ℕ → PageState) (twin : ℕ → ℕ → Bool) (slots : List ℕ) → may_erase_all (by_found (scene S t st twin) (exposed_slots S t st)) slots ≡ may_erase_all (scene S t st twin) slots

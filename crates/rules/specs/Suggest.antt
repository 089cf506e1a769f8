-- The call suggest.
use Rattle.std.specs.Prelude.{ℕ, Bool, not}
use Rattle.bounded.specs.Limits.{no_number, Widths}
use Rattle.bounded.specs.Below.{some_below, first_below}
use Rattle.outcome.specs.Outcome.{◌⇒◌otherwise◌, Outcome, settled}
use Rattle.sizes.specs.declared.Sizes.{Sizes}
use Rattle.state.specs.State.{state_sound}
use Rattle.table.specs.Table.{table_sound}
use Rattle.rules.specs.Volume.{Volume, volume_fits, slots_of, pages_of}
use Rattle.rules.specs.Permission.{scene_of, may_erase_alone}

-- slot k may be erased, "a list of one"
unfoldable pub suggestible : Sizes → Volume → ℕ → Bool
suggestible sizes v k = may_erase_alone (scene_of sizes v) k

unfoldable pub suggest_answer : Widths → Sizes → Volume → ℕ
suggest_answer widths sizes v =
    not (volume_fits widths sizes v) ⇒ 1 otherwise
    not (table_sound sizes.pages sizes.slots (slots_of v)) ⇒ 2 otherwise
    not (state_sound sizes.pages (pages_of v)) ⇒ 5 otherwise
    not (some_below sizes.slots (suggestible sizes v)) ⇒ 13 otherwise
    0

-- Document 02: "It shall name the lowest." The lowest slot that may be erased; S where none may
unfoldable pub suggested_slot : Sizes → Volume → ℕ
suggested_slot sizes v = first_below sizes.slots (suggestible sizes v)

-- Accepted, the second number is that slot; refused, "the suggested slot is 4,294,967,295". It alters nothing.
unfoldable pub suggest_outcome : Widths → Sizes → Volume → Outcome (Unit {0})
suggest_outcome widths sizes v = settled (suggest_answer widths sizes v) no_number (suggested_slot sizes v) tt tt

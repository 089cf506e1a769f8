-- The call erase.
use Rattle.std.specs.Prelude.{ℕ, List, map, not}
use Rattle.bounded.specs.Limits.{Widths}
use Rattle.outcome.specs.Outcome.{◌⇒◌otherwise◌, Outcome, settled}
use Rattle.sizes.specs.declared.Sizes.{Sizes}
use Rattle.sizes.specs.Sizes.{list_ok}
use Rattle.record.specs.Flash.{Flash, Step, apply_all}
use Rattle.state.specs.State.{state_sound}
use Rattle.table.specs.Table.{table_sound}
use Rattle.rules.specs.Volume.{Volume, volume_fits, slots_of, pages_of}
use Rattle.rules.specs.Permission.{scene_of, may_erase_all}

unfoldable pub erase_answer : Widths → Sizes → Volume → (slots : List ℕ) → ℕ
erase_answer widths sizes v slots =
    not (volume_fits widths sizes v) ⇒ 1 otherwise
    not (table_sound sizes.pages sizes.slots (slots_of v)) ⇒ 2 otherwise
    not (state_sound sizes.pages (pages_of v)) ⇒ 5 otherwise
    not (list_ok sizes.slots slots) ⇒ 6 otherwise
    not (may_erase_all (scene_of sizes v) slots) ⇒ 12 otherwise
    0

-- "Erase a list of slots: all become blank with bytes 255; nothing else changes": one step for each listed slot.
unfoldable pub erase_steps : List ℕ → List Step
erase_steps slots = map Step.Blank slots

-- It alters the flash alone.
unfoldable pub erase_outcome : Widths → Sizes → Volume → (slots : List ℕ) → Outcome Flash
erase_outcome widths sizes v slots = settled (erase_answer widths sizes v slots) 0 0 v.flash (apply_all sizes.width v.flash (erase_steps slots))

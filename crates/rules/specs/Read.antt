-- The call read.
use Rattle.std.specs.Prelude.{ℕ, List, not, ◌&&◌, ltb, eqb, length}
use Rattle.bounded.specs.Limits.{Widths}
use Rattle.outcome.specs.Outcome.{◌⇒◌otherwise◌, Outcome, settled}
use Rattle.sizes.specs.declared.Layout.{Layout}
use Rattle.sizes.specs.declared.Layout.TheVariants.{FiveWords}
use Rattle.sizes.specs.declared.Sizes.{Sizes}
use Rattle.record.specs.Slot.{bytes_at}
use Rattle.state.specs.State.{state_sound}
use Rattle.table.specs.Table.{table_sound, lowest_slot, has_version}
use Rattle.rules.specs.Volume.{Volume, volume_fits_in, slots_in, pages_of}

-- "the lowest slot holding the page at its committed version"; S where there is none
unfoldable pub read_slot_in : Layout → ℕ → Volume → ℕ → ℕ
read_slot_in layout S v page = lowest_slot S (slots_in layout v) page (pages_of v page).committed

unfoldable pub read_answer_in : Layout → Widths → Sizes → Volume → (page : ℕ) (out : List ℕ) → ℕ
read_answer_in layout widths sizes v page out =
    not (volume_fits_in layout widths sizes v && eqb (length out) sizes.width) ⇒ 1 otherwise
    not (table_sound sizes.pages sizes.slots (slots_in layout v)) ⇒ 2 otherwise
    not (state_sound sizes.pages (pages_of v)) ⇒ 5 otherwise
    not (ltb page sizes.pages) ⇒ 6 otherwise
    not (has_version sizes.slots (slots_in layout v) page (pages_of v page).committed) ⇒ 14 otherwise
    0

-- "copies to a lent 32-byte slice the bytes of" that slot, or to one as long as the width says; it alters nothing but `out`
unfoldable pub read_outcome_in : Layout → Widths → Sizes → Volume → (page : ℕ) (out : List ℕ) → Outcome (List ℕ)
read_outcome_in layout widths sizes v page out = settled (read_answer_in layout widths sizes v page out) 0 0 out (bytes_at sizes.width v.flash.contents (read_slot_in layout sizes.slots v page))

-- the same of five words
abbrev pub read_slot : ℕ → Volume → ℕ → ℕ
read_slot S v page = read_slot_in FiveWords S v page

abbrev pub read_answer : Widths → Sizes → Volume → (page : ℕ) (out : List ℕ) → ℕ
read_answer widths sizes v page out = read_answer_in FiveWords widths sizes v page out

abbrev pub read_outcome : Widths → Sizes → Volume → (page : ℕ) (out : List ℕ) → Outcome (List ℕ)
read_outcome widths sizes v page out = read_outcome_in FiveWords widths sizes v page out

-- The calls write, erase and recover of records without a back pointer, document 02, wish 5: "Refused" as document 01's calls of the same name are, and by 16.
-- Format and read are document 01's in the layout of four words; launch and withdraw see the state alone.
use Rattle.std.specs.Prelude.{ℕ, List, not, ◌&&◌, ◌||◌, ltb, eqb, length}
use Rattle.bounded.specs.Limits.{Widths}
use Rattle.bounded.specs.Below.{all_below, some_below}
use Rattle.outcome.specs.Outcome.{◌⇒◌otherwise◌, Outcome, settled}
use Rattle.sizes.specs.declared.Layout.TheVariants.{FourWords}
use Rattle.sizes.specs.declared.Sizes.{Sizes}
use Rattle.sizes.specs.Sizes.{sizes_ok, words_fit_in, state_fits, list_ok}
use Rattle.record.specs.declared.Record.{Record}
use Rattle.record.specs.Slot.{Slot}
use Rattle.record.specs.Slot.{slot_in, planned_record, is_blank}
use Rattle.record.specs.Flash.{Flash, Step, apply_in, apply_all_in}
use Rattle.state.specs.declared.PageState.{PageState}
use Rattle.state.specs.State.{state_words, state_sound, in_flight, is_written}
use Rattle.state.specs.Change.{after_write}
use Rattle.table.specs.Table.{table_sound, some_clash, has_record}
use Rattle.follow.specs.Follow.{links_followed, is_astray}
use Rattle.rules.specs.Volume.{Volume, volume_fits_in, slots_in, pages_of}
use Rattle.rules.specs.Write.{done_of_write}
use Rattle.rules.specs.Erase.{erase_steps}
use Rattle.rules.specs.Simple.{simple_verdict, simple_walk_of, has_committed, simple_recovered, simple_may_erase_all, would_bury}

-- ---- write

-- the planned record: "p, v, np, nv and no back pointer"
unfoldable pub simple_plan_of : (ℕ → PageState) → ℕ → Record
unfolding planned_record
simple_plan_of st p = planned_record p (st p).used 0 (st p).next (st (st p).next).used

-- "Refused: 16, a record would be buried, in write after 11."
unfoldable pub simple_write_answer : Widths → Sizes → Volume → (page slot : ℕ) (bytes : List ℕ) → ℕ
simple_write_answer widths sizes v page slot bytes =
    not (volume_fits_in FourWords widths sizes v && eqb (length bytes) sizes.width) ⇒ 1 otherwise
    not (table_sound sizes.pages sizes.slots (slots_in FourWords v)) ⇒ 2 otherwise
    not (state_sound sizes.pages (pages_of v)) ⇒ 5 otherwise
    not (ltb page sizes.pages && ltb slot sizes.slots) ⇒ 6 otherwise
    not (in_flight (pages_of v page)) ⇒ 9 otherwise
    is_written (pages_of v page) ⇒ 10 otherwise
    not (is_blank (slots_in FourWords v slot)) ⇒ 11 otherwise
    would_bury sizes.slots (slots_in FourWords v) (pages_of v) page ⇒ 16 otherwise
    0

unfoldable pub simple_write_change : Sizes → Volume → (page slot : ℕ) (bytes : List ℕ) → Volume
simple_write_change sizes v page slot bytes =
    record {
      flash = apply_in FourWords sizes.width v.flash (Step.Store slot (simple_plan_of (pages_of v) page) bytes);
      state = state_words sizes.pages (after_write sizes.pages (pages_of v) page);
    }

unfoldable pub simple_write_outcome : Widths → Sizes → Volume → (page slot : ℕ) (bytes : List ℕ) → Outcome Volume
simple_write_outcome widths sizes v page slot bytes =
    settled (simple_write_answer widths sizes v page slot bytes) 0 (done_of_write sizes.pages (pages_of v) page) v (simple_write_change sizes v page slot bytes)

-- ---- erase

unfoldable pub simple_erase_answer : Widths → Sizes → Volume → (slots : List ℕ) → ℕ
simple_erase_answer widths sizes v slots =
    not (volume_fits_in FourWords widths sizes v) ⇒ 1 otherwise
    not (table_sound sizes.pages sizes.slots (slots_in FourWords v)) ⇒ 2 otherwise
    not (state_sound sizes.pages (pages_of v)) ⇒ 5 otherwise
    not (list_ok sizes.slots slots) ⇒ 6 otherwise
    not (simple_may_erase_all (slots_in FourWords v) (pages_of v) slots) ⇒ 12 otherwise
    0

unfoldable pub simple_erase_outcome : Widths → Sizes → Volume → (slots : List ℕ) → Outcome Flash
simple_erase_outcome widths sizes v slots = settled (simple_erase_answer widths sizes v slots) 0 0 v.flash (apply_all_in FourWords sizes.width v.flash (erase_steps slots))

-- ---- recover

-- "two records of equal page and version always give 3"; "With no second version recovery gives 14."
unfoldable pub simple_recover_answer : Widths → Sizes → (words state : List ℕ) → ℕ
simple_recover_answer widths sizes words state =
    not (sizes_ok widths sizes && (words_fit_in FourWords sizes.slots words && state_fits sizes.pages state)) ⇒ 1 otherwise
    not (table_sound sizes.pages sizes.slots (slot_in FourWords words)) ⇒ 2 otherwise
    (some_clash sizes.slots (slot_in FourWords words) || not (all_below sizes.pages (has_record sizes.slots (slot_in FourWords words)))) ⇒ 3 otherwise
    some_below sizes.pages (λ p. is_astray (simple_walk_of sizes.pages sizes.slots (slot_in FourWords words) p).end) ⇒ 4 otherwise
    not (all_below sizes.pages (has_committed sizes.pages sizes.slots (slot_in FourWords words))) ⇒ 14 otherwise
    0

-- "the number of links followed", as recovery of either kind returns it
unfoldable pub simple_links_of : (P S : ℕ) → (ℕ → Slot) → ℕ
simple_links_of P S t = links_followed P (simple_verdict S t)

unfoldable pub simple_recover_outcome : Widths → Sizes → (words state : List ℕ) → Outcome (List ℕ)
simple_recover_outcome widths sizes words state =
    settled (simple_recover_answer widths sizes words state) 0 (simple_links_of sizes.pages sizes.slots (slot_in FourWords words))
    state (state_words sizes.pages (simple_recovered sizes.pages sizes.slots (slot_in FourWords words)))

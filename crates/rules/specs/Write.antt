-- The call write.
use Rattle.std.specs.Prelude.{ℕ, List, cond, not, ◌&&◌, ltb, eqb, length}
use Rattle.bounded.specs.Limits.{Widths}
use Rattle.outcome.specs.Outcome.{◌⇒◌otherwise◌, Outcome, settled}
use Rattle.sizes.specs.declared.Sizes.{Sizes}
use Rattle.record.specs.declared.Record.{Record}
use Rattle.record.specs.Slot.{planned_record, is_blank}
use Rattle.record.specs.Flash.{Step, apply}
use Rattle.state.specs.declared.PageState.{PageState}
use Rattle.state.specs.State.{state_words, state_sound, in_flight, is_written}
use Rattle.state.specs.Change.{completes, after_write}
use Rattle.table.specs.Table.{table_sound}
use Rattle.rules.specs.Volume.{Volume, volume_fits, slots_of, pages_of}

-- "the planned record has v = used of p, c = committed of p, np = next, nv = used of np"
unfoldable pub plan_of : (ℕ → PageState) → ℕ → Record
unfolding planned_record
plan_of st p = planned_record p (st p).used (st p).committed (st p).next (st (st p).next).used

unfoldable pub write_answer : Widths → Sizes → Volume → (page slot : ℕ) (bytes : List ℕ) → ℕ
write_answer widths sizes v page slot bytes =
    not (volume_fits widths sizes v && eqb (length bytes) sizes.width) ⇒ 1 otherwise
    not (table_sound sizes.pages sizes.slots (slots_of v)) ⇒ 2 otherwise
    not (state_sound sizes.pages (pages_of v)) ⇒ 5 otherwise
    not (ltb page sizes.pages && ltb slot sizes.slots) ⇒ 6 otherwise
    not (in_flight (pages_of v page)) ⇒ 9 otherwise
    is_written (pages_of v page) ⇒ 10 otherwise
    not (is_blank (slots_of v slot)) ⇒ 11 otherwise
    0

-- "A write changes only the five words and 32 bytes of its slot in flash", or as many bytes as the width says: one step.
unfoldable pub write_step : (ℕ → PageState) → (page slot : ℕ) (bytes : List ℕ) → Step
write_step st page slot bytes = Step.Store slot (plan_of st page) bytes

-- "the answer has done 1, else done 0"
unfoldable pub done_of_write : ℕ → (ℕ → PageState) → ℕ → ℕ
done_of_write P st page = cond (completes P st page) 1 0

unfoldable pub write_change : Sizes → Volume → (page slot : ℕ) (bytes : List ℕ) → Volume
write_change sizes v page slot bytes =
    record {
      flash = apply sizes.width v.flash (write_step (pages_of v) page slot bytes);
      state = state_words sizes.pages (after_write sizes.pages (pages_of v) page);
    }

-- Refused, "done … 0".
unfoldable pub write_outcome : Widths → Sizes → Volume → (page slot : ℕ) (bytes : List ℕ) → Outcome Volume
write_outcome widths sizes v page slot bytes =
    settled (write_answer widths sizes v page slot bytes) 0 (done_of_write sizes.pages (pages_of v) page) v (write_change sizes v page slot bytes)

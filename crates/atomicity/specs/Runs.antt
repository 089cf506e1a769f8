-- Runs that meet the premises, computed: the first three end in contents that are not the formatted zeros; in the fourth a ring that a recover closed stays closed; in the fifth a block is
-- cleaned, with a crash, by small blocks of two tables; in the sixth the volume is swept, with a crash behind the first erasure; a seventh, of records without a back pointer, has a write that is refused by 16.
use Rattle.std.specs.Prelude.{ℕ, ◌≡◌, List, [], ◌∷◌, ◌++◌, Bool, true, false, eqb, replicate}
use Rattle.bounded.specs.Limits.{no_number, Widths}
use Rattle.sizes.specs.declared.Sizes.{Sizes}
use Rattle.sizes.specs.Sizes.{sizes_of}
use Rattle.sizes.specs.Blocks.{named}
use Rattle.record.specs.Slot.{blank_record}
use Rattle.table.specs.Given.{given, table_of}
use Rattle.rules.specs.Volume.{Volume}
use Rattle.atomicity.specs.Family.{Family, back_pointer, simple}
use Rattle.atomicity.specs.Call.{Call, perform}
use Rattle.atomicity.specs.Run.{Event, started, after}
use Rattle.atomicity.specs.Model.{fresh_model}
use Rattle.atomicity.specs.Promise.{Premises, model_after}

-- Slots of 1 byte: the theorem is for any widths, and what is computed is shorter so.
unfoldable pub one_byte : Widths
one_byte w = eqb w 1

-- 2 pages and 5 slots of 1 byte; and buffers for them
abbrev pub sizes2 : Sizes
sizes2 = sizes_of 2 5 1

unfoldable pub blank_buffers : Volume
blank_buffers = record { flash = record { words = replicate 25 7; contents = replicate 5 7 }; state = replicate 8 7 }

-- … and for records of four words
unfoldable pub four_buffers : Volume
four_buffers = record { flash = record { words = replicate 20 7; contents = replicate 5 7 }; state = replicate 8 7 }

-- the state words after a crash, here all 9
unfoldable pub lost_state : List ℕ
lost_state = replicate 8 9

unfoldable pub every : ℕ → Bool
every i = true

unfoldable pub none : ℕ → Bool
none i = false

-- a launch that is refused; a ring whose last write crashes, stored: it is completed; two crashes in a row, a crashed recover; then recovered
unfoldable pub run_completed : List Event
run_completed =
    Event.Returns (Call.Launch (7 ∷ []))
    ∷ Event.Returns (Call.Launch (0 ∷ 1 ∷ []))
    ∷ Event.Returns (Call.Write 0 2 (5 ∷ []))
    ∷ Event.CrashIn (Call.Write 1 3 (6 ∷ [])) 0 every lost_state
    ∷ Event.Crash lost_state
    ∷ Event.CrashIn Call.Recover 0 none lost_state
    ∷ Event.Returns Call.Recover
    ∷ []

-- page 0 stored twice; an erase of its two obsolete records crashes when only the second is blanked; a crashed write that would be refused (slot 3
-- is not blank); a ring withdrawn; a crashed write whose slot is not stored; then recovered
unfoldable pub run_erased : List Event
run_erased =
    Event.Returns (Call.Launch (0 ∷ []))
    ∷ Event.Returns (Call.Write 0 2 (5 ∷ []))
    ∷ Event.Returns (Call.Launch (0 ∷ []))
    ∷ Event.Returns (Call.Write 0 3 (6 ∷ []))
    ∷ Event.CrashIn (Call.Erase (0 ∷ 2 ∷ [])) 0 (eqb 1) lost_state
    ∷ Event.Returns Call.Recover
    ∷ Event.Returns (Call.Launch (1 ∷ []))
    ∷ Event.CrashIn (Call.Write 1 3 (8 ∷ [])) 0 every lost_state
    ∷ Event.Returns Call.Recover
    ∷ Event.Returns (Call.Launch (1 ∷ []))
    ∷ Event.Returns (Call.Withdraw 1)
    ∷ Event.Returns (Call.Launch (1 ∷ []))
    ∷ Event.CrashIn (Call.Write 1 4 (8 ∷ [])) 0 none lost_state
    ∷ Event.Returns Call.Recover
    ∷ []

-- a write that a crash finds past its last stage: stored, whatever is said of the steps
unfoldable pub run_past : List Event
run_past =
    Event.Returns (Call.Launch (0 ∷ []))
    ∷ Event.CrashIn (Call.Write 0 2 (5 ∷ [])) 1 none lost_state
    ∷ Event.Returns Call.Recover
    ∷ []

-- a ring is launched and closed by a recover; then its page is written in another ring, which stays open
unfoldable pub run_closed : List Event
run_closed =
    Event.Returns (Call.Launch (0 ∷ []))
    ∷ Event.Returns Call.Recover
    ∷ Event.Returns (Call.Launch (1 ∷ 0 ∷ []))
    ∷ Event.Returns (Call.Write 0 2 (5 ∷ []))
    ∷ []

-- page 0 is stored; a cleaning by a wrong table is refused; one of slots 0 and 1 crashes when page 1's record is copied, to slot 3, and slot 0 alone is blanked
unfoldable pub run_copied : List Event
run_copied =
    Event.Returns (Call.Launch (0 ∷ []))
    ∷ Event.Returns (Call.Write 0 2 (5 ∷ []))
    ∷ Event.Returns (Call.Clean (named (0 ∷ 2 ∷ 2 ∷ []) 0))
    ∷ Event.CrashIn (Call.Clean (named (0 ∷ 2 ∷ 4 ∷ []) 0)) 1 (eqb 0) lost_state
    ∷ []

-- … then it is recovered, and slot 1 is cleaned, a block of another table; nothing is to be copied
unfoldable pub run_cleaned : List Event
run_cleaned = run_copied ++ (Event.Returns Call.Recover ∷ Event.Returns (Call.Clean (named (0 ∷ 1 ∷ 2 ∷ 3 ∷ 4 ∷ []) 1)) ∷ [])

-- a ring of two is withdrawn behind its first write, whose record stays exposed, and page 1 is stored; a sweep crashes when that record is blanked and nothing else
unfoldable pub run_sweeping : List Event
run_sweeping =
    Event.Returns (Call.Launch (0 ∷ 1 ∷ []))
    ∷ Event.Returns (Call.Write 0 2 (5 ∷ []))
    ∷ Event.Returns (Call.Withdraw 0)
    ∷ Event.Returns (Call.Launch (1 ∷ []))
    ∷ Event.Returns (Call.Write 1 3 (6 ∷ []))
    ∷ Event.CrashIn Call.Sweep 1 none lost_state
    ∷ []

-- … then it is recovered and swept
unfoldable pub run_swept : List Event
run_swept = run_sweeping ++ (Event.Returns Call.Recover ∷ Event.Returns Call.Sweep ∷ [])

-- the first write of a ring of two, then a crash: its record stays exposed; the page is launched in another ring
unfoldable pub run_exposed : List Event
run_exposed =
    Event.Returns (Call.Launch (0 ∷ 1 ∷ []))
    ∷ Event.Returns (Call.Write 0 2 (5 ∷ []))
    ∷ Event.Crash lost_state
    ∷ Event.Returns Call.Recover
    ∷ Event.Returns (Call.Launch (0 ∷ []))
    ∷ []

-- … and a write of the page is refused; the record is erased, and the write is done
unfoldable pub run_buried : List Event
run_buried = run_exposed ++ (Event.Returns (Call.Write 0 3 (6 ∷ [])) ∷ Event.Returns (Call.Erase (2 ∷ [])) ∷ Event.Returns (Call.Write 0 4 (8 ∷ [])) ∷ [])

-- what the reference model keeps of pages 0 and 1 after a run
unfoldable pub kept_after : Family → Volume → List Event → List (List ℕ)
kept_after F v events = let m = model_after F one_byte sizes2 (started F one_byte sizes2 v) (fresh_model 1) events in m.kept 0 ∷ m.kept 1 ∷ []

-- the records left in the table after a run: its words
unfoldable pub words_after : Family → Volume → List Event → List ℕ
words_after F v events = (after F one_byte sizes2 (started F one_byte sizes2 v) events).volume.flash.words

-- What is computed of them. The crashed erasure blanked slot 2 and not slot 0, and neither crashed write stored its slot; the crashed cleaning left twins, in slots 1 and 3.
pub record RunsComputed : Type 0 where
  pub completed_meets : Premises back_pointer one_byte sizes2 blank_buffers run_completed
  pub completed_keeps : kept_after back_pointer blank_buffers run_completed ≡ (5 ∷ []) ∷ (6 ∷ []) ∷ []
  pub erased_meets : Premises back_pointer one_byte sizes2 blank_buffers run_erased
  pub erased_keeps : kept_after back_pointer blank_buffers run_erased ≡ (6 ∷ []) ∷ (0 ∷ []) ∷ []
  pub erased_leaves : words_after back_pointer blank_buffers run_erased ≡ table_of 5 (given 0 0 0 0 0 ∷ given 1 0 0 1 0 ∷ blank_record ∷ given 0 2 1 0 2 ∷ [])
  pub past_meets : Premises back_pointer one_byte sizes2 blank_buffers run_past
  pub past_keeps : kept_after back_pointer blank_buffers run_past ≡ (5 ∷ []) ∷ (0 ∷ []) ∷ []
  pub closed_meets : Premises back_pointer one_byte sizes2 blank_buffers run_closed
  pub closed_keeps : kept_after back_pointer blank_buffers run_closed ≡ (0 ∷ []) ∷ (0 ∷ []) ∷ []
  pub copied_leaves : words_after back_pointer blank_buffers run_copied ≡ table_of 5 (blank_record ∷ given 1 0 0 1 0 ∷ given 0 1 0 0 1 ∷ given 1 0 0 1 0 ∷ [])
  pub cleaned_meets : Premises back_pointer one_byte sizes2 blank_buffers run_cleaned
  pub cleaned_keeps : kept_after back_pointer blank_buffers run_cleaned ≡ (5 ∷ []) ∷ (0 ∷ []) ∷ []
  pub cleaned_leaves : words_after back_pointer blank_buffers run_cleaned ≡ table_of 5 (blank_record ∷ blank_record ∷ given 0 1 0 0 1 ∷ given 1 0 0 1 0 ∷ [])
  pub sweeping_leaves : words_after back_pointer blank_buffers run_sweeping ≡ table_of 5 (given 0 0 0 0 0 ∷ given 1 0 0 1 0 ∷ blank_record ∷ given 1 2 0 1 2 ∷ [])
  pub swept_meets : Premises back_pointer one_byte sizes2 blank_buffers run_swept
  pub swept_keeps : kept_after back_pointer blank_buffers run_swept ≡ (0 ∷ []) ∷ (6 ∷ []) ∷ []
  pub swept_leaves : words_after back_pointer blank_buffers run_swept ≡ table_of 5 (given 0 0 0 0 0 ∷ blank_record ∷ blank_record ∷ given 1 2 0 1 2 ∷ [])

-- The same of records without a back pointer; and a ring's first record, buried by none.
pub record SimpleRunsComputed : Type 0 where
  pub completed_meets : Premises simple one_byte sizes2 four_buffers run_completed
  pub completed_keeps : kept_after simple four_buffers run_completed ≡ (5 ∷ []) ∷ (6 ∷ []) ∷ []
  pub erased_meets : Premises simple one_byte sizes2 four_buffers run_erased
  pub erased_keeps : kept_after simple four_buffers run_erased ≡ (6 ∷ []) ∷ (0 ∷ []) ∷ []
  pub erased_leaves :
      words_after simple four_buffers run_erased
      ≡ 0 ∷ 0 ∷ 0 ∷ 0 ∷ 1 ∷ 0 ∷ 1 ∷ 0 ∷ no_number ∷ no_number ∷ no_number ∷ no_number ∷ 0 ∷ 2 ∷ 0 ∷ 2 ∷ no_number ∷ no_number ∷ no_number ∷ no_number ∷ []
  pub past_meets : Premises simple one_byte sizes2 four_buffers run_past
  pub past_keeps : kept_after simple four_buffers run_past ≡ (5 ∷ []) ∷ (0 ∷ []) ∷ []
  pub closed_meets : Premises simple one_byte sizes2 four_buffers run_closed
  pub closed_keeps : kept_after simple four_buffers run_closed ≡ (0 ∷ []) ∷ (0 ∷ []) ∷ []
  pub buried_refused : (perform simple one_byte sizes2 (after simple one_byte sizes2 (started simple one_byte sizes2 four_buffers) run_exposed).volume (Call.Write 0 3 (6 ∷ []))).answer ≡ 16
  pub buried_meets : Premises simple one_byte sizes2 four_buffers run_buried
  pub buried_keeps : kept_after simple four_buffers run_buried ≡ (8 ∷ []) ∷ (0 ∷ []) ∷ []
  pub buried_leaves :
      words_after simple four_buffers run_buried
      ≡ 0 ∷ 0 ∷ 0 ∷ 0 ∷ 1 ∷ 0 ∷ 1 ∷ 0 ∷ no_number ∷ no_number ∷ no_number ∷ no_number ∷ no_number ∷ no_number ∷ no_number ∷ no_number ∷ 0 ∷ 2 ∷ 0 ∷ 2 ∷ []

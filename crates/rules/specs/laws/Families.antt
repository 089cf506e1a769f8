-- The rules of both families of records, by how a record lies: five words, document 01's; four words, document 02's, wish 5.
use Rattle.std.specs.Prelude.{ℕ, List, Bool, false}
use Rattle.bounded.specs.Limits.{Widths}
use Rattle.outcome.specs.Outcome.{Outcome}
use Rattle.sizes.specs.declared.Layout.{Layout}
use Rattle.sizes.specs.declared.Layout.TheVariants.{FiveWords, FourWords}
use Rattle.sizes.specs.declared.Sizes.{Sizes}
use Rattle.record.specs.declared.Record.{Record}
use Rattle.record.specs.Slot.{Slot}
use Rattle.record.specs.Flash.{Flash}
use Rattle.state.specs.declared.PageState.{PageState}
use Rattle.follow.specs.declared.Verdict.{Verdict}
use Rattle.rules.specs.Volume.{Volume}
use Rattle.rules.specs.Verdict.{link_verdict, verdict}
use Rattle.rules.specs.Write.{plan_of, write_answer, write_change, write_outcome}
use Rattle.rules.specs.Permission.{Scene, may_erase_all}
use Rattle.rules.specs.Erase.{erase_answer, erase_outcome}
use Rattle.rules.specs.Recover.{recovered}
use Rattle.rules.specs.Simple.{simple_link_verdict, simple_verdict, simple_recovered, simple_may_erase_all, would_bury}
use Rattle.rules.specs.SimpleCalls.{simple_plan_of, simple_write_answer, simple_write_change, simple_write_outcome, simple_erase_answer, simple_erase_outcome}

-- ---- write

abbrev pub plan_in : Layout → (ℕ → PageState) → ℕ → Record
plan_in FiveWords st p = plan_of st p
plan_in FourWords st p = simple_plan_of st p

-- a record with a back pointer buries none
abbrev pub would_bury_in : Layout → ℕ → (ℕ → Slot) → (ℕ → PageState) → ℕ → Bool
would_bury_in FiveWords S t st p = false
would_bury_in FourWords S t st p = would_bury S t st p

abbrev pub write_answer_in : Layout → Widths → Sizes → Volume → (page slot : ℕ) (bytes : List ℕ) → ℕ
write_answer_in FiveWords widths sizes v page slot bytes = write_answer widths sizes v page slot bytes
write_answer_in FourWords widths sizes v page slot bytes = simple_write_answer widths sizes v page slot bytes

abbrev pub write_change_in : Layout → Sizes → Volume → (page slot : ℕ) (bytes : List ℕ) → Volume
write_change_in FiveWords sizes v page slot bytes = write_change sizes v page slot bytes
write_change_in FourWords sizes v page slot bytes = simple_write_change sizes v page slot bytes

abbrev pub write_outcome_in : Layout → Widths → Sizes → Volume → (page slot : ℕ) (bytes : List ℕ) → Outcome Volume
write_outcome_in FiveWords widths sizes v page slot bytes = write_outcome widths sizes v page slot bytes
write_outcome_in FourWords widths sizes v page slot bytes = simple_write_outcome widths sizes v page slot bytes

-- ---- erase

-- a record without a back pointer has no twin
abbrev pub may_erase_all_in : Layout → Scene → List ℕ → Bool
may_erase_all_in FiveWords s slots = may_erase_all s slots
may_erase_all_in FourWords s slots = simple_may_erase_all s.table s.state slots

abbrev pub erase_answer_in : Layout → Widths → Sizes → Volume → (slots : List ℕ) → ℕ
erase_answer_in FiveWords widths sizes v slots = erase_answer widths sizes v slots
erase_answer_in FourWords widths sizes v slots = simple_erase_answer widths sizes v slots

abbrev pub erase_outcome_in : Layout → Widths → Sizes → Volume → (slots : List ℕ) → Outcome Flash
erase_outcome_in FiveWords widths sizes v slots = erase_outcome widths sizes v slots
erase_outcome_in FourWords widths sizes v slots = simple_erase_outcome widths sizes v slots

-- ---- recover

abbrev pub link_verdict_in : Layout → ℕ → (ℕ → Slot) → Record → Verdict
link_verdict_in FiveWords S t J = link_verdict S t J
link_verdict_in FourWords S t J = simple_link_verdict S t J

abbrev pub verdict_in : Layout → ℕ → (ℕ → Slot) → ℕ → Verdict
verdict_in FiveWords S t p = verdict S t p
verdict_in FourWords S t p = simple_verdict S t p

abbrev pub recovered_in : Layout → (P S : ℕ) → (ℕ → Slot) → ℕ → PageState
recovered_in FiveWords P S t p = recovered P S t p
recovered_in FourWords P S t p = simple_recovered P S t p

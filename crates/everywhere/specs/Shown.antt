-- What is shown of scripts cut everywhere, stated.
use Rattle.std.specs.Prelude.{ℕ, ◌+◌, ◌≡◌, Bool, true, false, cond, eqb, length}
use mathlib.Core.List.{List, [], ◌∷◌, flatten}
use Rattle.bounded.specs.Limits.{Widths}
use Rattle.sizes.specs.declared.Sizes.{Sizes}
use Rattle.record.specs.Flash.{apply_all}
use Rattle.rules.specs.Volume.{Volume}
use Rattle.rules.specs.Format.{format_outcome_in}
use Rattle.rules.specs.Erase.{erase_answer, erase_steps, erase_outcome}
use Rattle.atomicity.specs.Family.{Family, back_pointer}
use Rattle.atomicity.specs.Call.{Call, perform}
use Rattle.atomicity.specs.Run.{World, happens, started}
use Rattle.everywhere.specs.Cuts.{Recorded, Makes, Cut, event_of, cuts_of, sames, differs, erase_outcome_by, erasing}

-- the slots that a call stores or blanks where it is accepted: a write one, an erase those that it lists; a cleaning and a sweep, which no line of a script makes, those of their steps
unfoldable pub slots_of : Family → Sizes → Volume → Call → ℕ
slots_of F sizes v (Call.Launch pages) = 0
slots_of F sizes v (Call.Write page slot bytes) = 1
slots_of F sizes v (Call.Withdraw page) = 0
slots_of F sizes v (Call.Erase slots) = length slots
slots_of F sizes v Call.Recover = 0
slots_of F sizes v (Call.Clean block) = length (flatten (F.clean_stages sizes v block))
slots_of F sizes v Call.Sweep = length (flatten (F.sweep_stages sizes v))

unfoldable pub slots_in : Family → Widths → Sizes → Volume → Recorded → ℕ
slots_in F widths sizes v (Makes call) = cond (eqb (perform F widths sizes v call).answer 0) (slots_of F sizes v call) 0
slots_in F widths sizes v Cut = 0

unfoldable pub slots_from : Family → Widths → Sizes → World → List Recorded → ℕ
slots_from F widths sizes x [] = 0
slots_from F widths sizes x (r ∷ script) = slots_in F widths sizes x.volume r + slots_from F widths sizes (happens F widths sizes x (event_of sizes r)) script

-- Of every script, for any widths:
pub record CutEverywhere (widths : Widths) : Type 0 where
  -- "cuts is the number of slots that accepted writes and erases store or blank", the trial's too
  pub counted : (trial : Bool) (sizes : Sizes) (v : Volume) (script : List Recorded) → length (cuts_of (erasing trial) widths sizes v script) ≡ slots_from (erasing trial) widths sizes (started (erasing trial) widths sizes v) script
  -- each cut is the same or differs
  pub either : (trial : Bool) (sizes : Sizes) (v : Volume) (script : List Recorded) → sames (cuts_of (erasing trial) widths sizes v script) + differs (cuts_of (erasing trial) widths sizes v script) ≡ length (cuts_of (erasing trial) widths sizes v script)
  -- "our own calls": without the trial they are the calls of promise 3
  pub own_calls : erasing false ≡ back_pointer
  -- with it records, what a write plans, write and recover are
  pub same_layout : (erasing true).layout ≡ back_pointer.layout
  pub same_plan : (erasing true).plan ≡ back_pointer.plan
  pub same_write : (erasing true).write ≡ back_pointer.write
  pub same_recover : (erasing true).recover ≡ back_pointer.recover
  -- "A trial erase that never answers 12": where erase would, every listed slot is blanked; it is else the same
  pub trial_done :
      (sizes : Sizes) (v : Volume) (slots : List ℕ) → erase_answer widths sizes v slots ≡ 12
      → erase_outcome_by true widths sizes v slots ≡ record { answer = 0; second = 0; left = apply_all sizes.width v.flash (erase_steps slots) }
  pub trial_else : (sizes : Sizes) (v : Volume) (slots : List ℕ) → ¬ (erase_answer widths sizes v slots ≡ 12) → erase_outcome_by true widths sizes v slots ≡ erase_outcome widths sizes v slots
  -- "for our own calls differ is 0 and same equals cuts", on every volume that a format accepts
  pub none_differs : (sizes : Sizes) (v : Volume) → (format_outcome_in back_pointer.layout widths sizes v).answer ≡ 0 → (script : List Recorded) → differs (cuts_of (erasing false) widths sizes v script) ≡ 0
  pub all_same :
      (sizes : Sizes) (v : Volume) → (format_outcome_in back_pointer.layout widths sizes v).answer ≡ 0
      → (script : List Recorded) → sames (cuts_of (erasing false) widths sizes v script) ≡ length (cuts_of (erasing false) widths sizes v script)

-- Runs with crashes: document 01, "Runs, cuts and the ledger".
use Rattle.std.specs.Prelude.{ℕ, suc, ◌*◌, List, [], ◌∷◌, ◌++◌, Bool, true, false, cond, not, ◌&&◌, ◌||◌, ltb, eqb, length}
use Rattle.bounded.specs.Limits.{Widths}
use Rattle.sizes.specs.declared.Sizes.{Sizes}
use Rattle.record.specs.Flash.{Step, apply_all_in}
use Rattle.rules.specs.Volume.{Volume}
use Rattle.rules.specs.Format.{format_outcome_in}
use Rattle.atomicity.specs.Family.{Family}
use Rattle.atomicity.specs.Call.{Call, perform, flash_stages}

-- "A cut falls between two calls or in one." A crash in a call carries the number of the stage in which it fell and, for each step of that stage,
-- whether it was done; a number past the call's last stage means that all were. After a crash "the sheet then holds any words".
pub data Event : Type 0 where
  Returns : Call → Event
  CrashIn : Call → (stage : ℕ) (done : ℕ → Bool) → (state : List ℕ) → Event
  Crash : (state : List ℕ) → Event

-- the steps of a list that were done; the first of them has number i
unfoldable pub done_of : (ℕ → Bool) → ℕ → List Step → List Step
done_of done i [] = []
done_of done i (s ∷ steps) = cond (done i) (s ∷ done_of done (suc i) steps) (done_of done (suc i) steps)

-- of stages, of which the first has number k, the steps that were done, by the numbers of stage and step
unfoldable pub done_in : (ℕ → ℕ → Bool) → ℕ → List (List Step) → List Step
done_in done k [] = []
done_in done k (first ∷ rest) = done_of (done k) 0 first ++ done_in done (suc k) rest

-- A crash leaves done all steps of the stages before its own, any of its own, and none of those behind it: step i of stage k was done.
unfoldable pub was_done : (stage : ℕ) (done : ℕ → Bool) → (k i : ℕ) → Bool
was_done stage done k i = ltb k stage || (eqb k stage && done i)

-- the steps that a crash leaves done
unfoldable pub steps_cut_short : (stage : ℕ) (done : ℕ → Bool) → List (List Step) → List Step
steps_cut_short stage done stages = done_in (was_done stage done) 0 stages

-- a volume, and whether its state is lost: there was a crash, and no recover has answered 0 since
pub record World : Type 0 where
  pub volume : Volume
  pub lost : Bool

unfoldable pub is_recover : Call → Bool
is_recover (Call.Launch pages) = false
is_recover (Call.Write page slot bytes) = false
is_recover (Call.Withdraw page) = false
is_recover (Call.Erase slots) = false
is_recover Call.Recover = true
is_recover (Call.Clean block) = false
is_recover Call.Sweep = false

-- a recover that answers 0 finds a lost state again
unfoldable pub still_lost : Bool → Call → ℕ → Bool
still_lost lost call answer = lost && not (is_recover call && eqb answer 0)

-- One event. A crash has one clause for the flash, whatever the call: its stages, cut short. "A cut write leaves its slot as it was, or stored
-- whole, words and bytes. A cut erasure leaves each listed slot as it was or blanked, in any mixture. A cut launch, withdrawal or recovery, or a
-- cut call that would be refused, leaves the flash as it was. No other slot changes." Document 02, of a cleaning: "A cut leaves the flash as it was or as after any of these
-- steps, or, once all copies stand, with any part of the block blanked." Of a sweep: its erasings "follow in that order, each finished before the next begins, and a cut may leave any part of the one it
-- meets done."
unfoldable pub happens : Family → Widths → Sizes → World → Event → World
happens F widths sizes x (Event.Returns call) =
    let o = perform F widths sizes x.volume call in
    record { volume = o.left; lost = still_lost x.lost call o.answer }
happens F widths sizes x (Event.CrashIn call stage done state) =
    record {
      volume = record { flash = apply_all_in F.layout sizes.width x.volume.flash (steps_cut_short stage done (flash_stages F widths sizes x.volume call)); state = state };
      lost = true;
    }
happens F widths sizes x (Event.Crash state) = record { volume = record { flash = x.volume.flash; state = state }; lost = true }

-- "The list starts from the flash and sheet that an accepted format leaves."
unfoldable pub started : Family → Widths → Sizes → Volume → World
started F widths sizes v = record { volume = (format_outcome_in F.layout widths sizes v).left; lost = false }

-- the world after a list of events
unfoldable pub after : Family → Widths → Sizes → World → List Event → World
after F widths sizes x [] = x
after F widths sizes x (e ∷ events) = after F widths sizes (happens F widths sizes x e) events

-- the world after a list of events, begun on what a format of the volume leaves
abbrev pub world_after : Family → Widths → Sizes → Volume → List Event → World
world_after F widths sizes v events = after F widths sizes (started F widths sizes v) events

-- What a run keeps to, event by event. These are all the premises on a list:
-- "no call but recover follows until one has answered 0" after a crash; and the state, after a crash, "holds any words", as many as before, 4×P.
unfoldable pub keeps_to : ℕ → World → Event → Bool
keeps_to P x (Event.Returns call) = cond x.lost (is_recover call) true
keeps_to P x (Event.CrashIn call stage done state) = cond x.lost (is_recover call) true && eqb (length state) (4 * P)
keeps_to P x (Event.Crash state) = eqb (length state) (4 * P)

unfoldable pub keeps_premises : Family → Widths → Sizes → World → List Event → Bool
keeps_premises F widths sizes x [] = true
keeps_premises F widths sizes x (e ∷ events) = keeps_to sizes.pages x e && keeps_premises F widths sizes (happens F widths sizes x e) events

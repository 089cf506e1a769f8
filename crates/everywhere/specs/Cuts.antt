-- A recorded run with a cut at every point: document 02, wish 12, "Cut it everywhere".
use Rattle.std.specs.Prelude.{ℕ, suc, ◌*◌, List, [], ◌∷◌, ◌++◌, map, Bool, true, false, cond, ◌&&◌, leb, eqb, get_or, replicate}
use Rattle.bounded.specs.Limits.{no_number, Widths}
use Rattle.bounded.specs.Below.{all_below}
use Rattle.outcome.specs.Outcome.{Outcome, settled}
use Rattle.sizes.specs.declared.Sizes.{Sizes}
use Rattle.record.specs.Flash.{Flash, Step, apply_all}
use Rattle.twins.specs.Twins.{has_same_bytes}
use Rattle.rules.specs.Volume.{Volume}
use Rattle.rules.specs.Read.{read_outcome_in}
use Rattle.rules.specs.Erase.{erase_answer, erase_steps}
use Rattle.atomicity.specs.Family.{Family, back_pointer}
use Rattle.atomicity.specs.Call.{Call, flash_stages}
use Rattle.atomicity.specs.Run.{Event, World, happens, started}
use Rattle.atomicity.specs.Model.{Model, fresh_model, learns}
use Rattle.atomicity.specs.Promise.{told}

-- ---- what is recorded

-- "cut sets every sheet word to 4,294,967,295"
unfoldable pub wiped_state : Sizes → List ℕ
wiped_state sizes = replicate (4 * sizes.pages) no_number

-- a step of "a recorded script": a call, or a cut between two calls
pub data Recorded : Type 0 where
  Makes : Call → Recorded
  Cut : Recorded

unfoldable pub event_of : Sizes → Recorded → Event
event_of sizes (Makes call) = Event.Returns call
event_of sizes Cut = Event.Crash (wiped_state sizes)

-- ---- "a cut at every point"

-- A point in a call: the stage that the cut meets, and which of its steps are done.
pub record Point : Type 0 where
  pub stage : ℕ
  pub done : ℕ → Bool

-- the slot that a step stores or blanks
unfoldable pub slot_of : Step → ℕ
slot_of (Step.Store k r bytes) = k
slot_of (Step.Blank k) = k

-- "in rising slot order": of steps at these slots, where slot k is the last that was stored or blanked, exactly those up to k are done
unfoldable pub up_to : (slots : List ℕ) (k : ℕ) → ℕ → Bool
up_to slots k i = leb (get_or slots i 0) k

-- "after each flash slot stored or blanked …, in rising slot order within an erase": a point for each slot of a stage. They stand as the slots are listed.
unfoldable pub stage_points : ℕ → (slots : List ℕ) → List Point
stage_points stage slots = map (λ k. record { stage = stage; done = up_to slots k }) slots

-- the points in the stages, the first of which has this number
unfoldable pub points_from : ℕ → List (List Step) → List Point
points_from stage [] = []
points_from stage (first ∷ rest) = stage_points stage (map slot_of first) ++ points_from (suc stage) rest

-- ---- "followed by recovery"

-- read of the page answers 0 and copies the contents that are kept
unfoldable pub are_reads_kept : Family → Widths → Sizes → Volume → (kept : ℕ → List ℕ) → (page : ℕ) → Bool
are_reads_kept F widths sizes v kept page =
    let o = read_outcome_in F.layout widths sizes v page (replicate sizes.width 0) in
    eqb o.answer 0 && has_same_bytes sizes.width o.left (kept page)

-- "differ counts cuts whose recovery refuses or whose contents are not those of the last completed rings, and same the others": a cut that left this volume is among the same
unfoldable pub comes_back : Family → Widths → Sizes → Volume → (kept : ℕ → List ℕ) → Bool
comes_back F widths sizes v kept =
    let o = F.recover widths sizes v in
    eqb o.answer 0 && all_below sizes.pages (are_reads_kept F widths sizes (record { flash = v.flash; state = o.left }) kept)

-- … after a cut, by the reference model that is told of it
unfoldable pub same_after : Family → Widths → Sizes → World → Model → Event → Bool
same_after F widths sizes x m e = comes_back F widths sizes (happens F widths sizes x e).volume (learns m (told F widths sizes x e)).kept

-- ---- what a run finds: for each cut whether it is the same. The cuts do not alter the run that they interrupt.

-- the cuts in a step of the script; a refused call has no stages, so no cut
unfoldable pub cuts_in : Family → Widths → Sizes → World → Model → Recorded → List Bool
cuts_in F widths sizes x m (Makes call) =
    map (λ (c : Point). same_after F widths sizes x m (Event.CrashIn call c.stage c.done (wiped_state sizes))) (points_from 0 (flash_stages F widths sizes x.volume call))
cuts_in F widths sizes x m Cut = []

unfoldable pub cuts_from : Family → Widths → Sizes → World → Model → List Recorded → List Bool
cuts_from F widths sizes x m [] = []
cuts_from F widths sizes x m (r ∷ script) =
    cuts_in F widths sizes x m r ++ cuts_from F widths sizes (happens F widths sizes x (event_of sizes r)) (learns m (told F widths sizes x (event_of sizes r))) script

-- "once the format is done": from the volume that an accepted format leaves of these buffers
unfoldable pub cuts_of : Family → Widths → Sizes → Volume → List Recorded → List Bool
cuts_of F widths sizes v script = cuts_from F widths sizes (started F widths sizes v) (fresh_model sizes.width) script

-- how many are the same, and how many differ
unfoldable pub sames : List Bool → ℕ
sames [] = 0
sames (true ∷ cuts) = suc (sames cuts)
sames (false ∷ cuts) = sames cuts

unfoldable pub differs : List Bool → ℕ
differs [] = 0
differs (true ∷ cuts) = differs cuts
differs (false ∷ cuts) = suc (differs cuts)

-- ---- "A trial erase"

-- "that never answers 12": it is done where erase would answer so, and is else the same
unfoldable pub answer_by : (trial : Bool) → ℕ → ℕ
answer_by false answer = answer
answer_by true answer = cond (eqb answer 12) 0 answer

unfoldable pub erase_outcome_by : (trial : Bool) → Widths → Sizes → Volume → (slots : List ℕ) → Outcome Flash
erase_outcome_by trial widths sizes v slots =
    settled (answer_by trial (erase_answer widths sizes v slots)) 0 0 v.flash (apply_all sizes.width v.flash (erase_steps slots))

-- document 01's records with this erase: `erasing false` is `back_pointer`
abbrev pub erasing : (trial : Bool) → Family
erasing trial =
    record {
      layout = back_pointer.layout;
      plan = back_pointer.plan;
      committed = back_pointer.committed;
      write = back_pointer.write;
      erase = erase_outcome_by trial;
      recover = back_pointer.recover;
      clean = back_pointer.clean;
      sweep = back_pointer.sweep;
      clean_stages = back_pointer.clean_stages;
      sweep_stages = back_pointer.sweep_stages;
    }

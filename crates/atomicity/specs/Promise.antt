-- Promise 3, stated.
use Rattle.std.specs.Prelude.{ℕ, ◌*◌, ◌<◌, ◌≡◌, List, [], ◌∷◌, Bool, true, ◌&&◌, eqb, length}
use Rattle.bounded.specs.Limits.{Widths}
use Rattle.sizes.specs.declared.Sizes.{Sizes}
use Rattle.record.specs.Flash.{Flash}
use Rattle.rules.specs.Volume.{Volume}
use Rattle.rules.specs.Format.{format_outcome_in}
use Rattle.rules.specs.Read.{read_outcome_in}
use Rattle.atomicity.specs.Family.{Family, back_pointer}
use Rattle.atomicity.specs.Call.{Call, perform}
use Rattle.atomicity.specs.Run.{Event, World, was_done, happens, started, keeps_premises, world_after}
use Rattle.atomicity.specs.Model.{Told, Model, fresh_model, learns}

-- what the model is told of a crash in a call: of a write, whether its slot was stored (it would be accepted, and its one step was done)
unfoldable pub told_of_crash : Call → (answer stage : ℕ) (done : ℕ → Bool) → Told
told_of_crash (Call.Launch pages) answer stage done = Told.Crashed
told_of_crash (Call.Write page slot bytes) answer stage done = Told.CrashedWrite page bytes (eqb answer 0 && was_done stage done 0 0)
told_of_crash (Call.Withdraw page) answer stage done = Told.Crashed
told_of_crash (Call.Erase slots) answer stage done = Told.Crashed
told_of_crash Call.Recover answer stage done = Told.Crashed
told_of_crash (Call.Clean block) answer stage done = Told.Crashed
told_of_crash Call.Sweep answer stage done = Told.Crashed

-- what the model is told of an event
unfoldable pub told : Family → Widths → Sizes → World → Event → Told
told F widths sizes x (Event.Returns call) = Told.Answered call (perform F widths sizes x.volume call).answer
told F widths sizes x (Event.CrashIn call stage done state) = told_of_crash call (perform F widths sizes x.volume call).answer stage done
told F widths sizes x (Event.Crash state) = Told.Crashed

-- the model after a list of events
unfoldable pub model_after : Family → Widths → Sizes → World → Model → List Event → Model
model_after F widths sizes x m [] = m
model_after F widths sizes x m (e ∷ events) = model_after F widths sizes (happens F widths sizes x e) (learns m (told F widths sizes x e)) events

-- "After the list recover answers 0, and Read of each page, on the sheet so filled, answers 0 and copies exactly the ledger's kept contents of
-- that page": on any state words of the right number, and into any slice of the right length.
pub record Recovers (F : Family) (widths : Widths) (sizes : Sizes) (f : Flash) (kept : ℕ → List ℕ) (state : List ℕ) : Type 0 where
  pub recover_answers_lem : (F.recover widths sizes (record { flash = f; state = state })).answer ≡ 0
  pub reads_kept :
      (page : ℕ) (out : List ℕ)
      → page < sizes.pages
      → length out ≡ sizes.width
      → read_outcome_in F.layout widths sizes (record { flash = f; state = (F.recover widths sizes (record { flash = f; state = state })).left }) page out
      ≡ record { answer = 0; second = 0; left = kept page }

-- What a list of events is held to: these are all the premises of promise 3. (That the volume's sizes stay, the width too, that every call is lent this volume's
-- own flash and state as the last call or crash left them, that only these calls alter them, and what a crash may leave, is how `after` runs a list.)
pub record Premises (F : Family) (widths : Widths) (sizes : Sizes) (v : Volume) (events : List Event) : Type 0 where
  -- "The list starts from the flash and sheet that an accepted format leaves", whatever the lent buffers held.
  pub formatted : (format_outcome_in F.layout widths sizes v).answer ≡ 0
  -- "after a cut no call but recovery comes until one has answered 0", and the state has its 4×P words after a crash.
  pub keeps : keeps_premises F widths sizes (started F widths sizes v) events ≡ true

-- Promise 3 with these widths allowed: for every P, S and width, every list of events under the premises, and on any state words of the right number.
abbrev pub PromiseAt : Family → Widths → Type 0
PromiseAt F widths =
    (sizes : Sizes) (v : Volume) (events : List Event)
    → Premises F widths sizes v events
    → (state : List ℕ)
    → length state ≡ 4 * sizes.pages
    → Recovers F widths sizes (world_after F widths sizes v events).volume.flash (model_after F widths sizes (started F widths sizes v) (fresh_model sizes.width) events).kept state

-- Promise 3 of a family of records. Document 02: "Show recovery, cleaning and the power-cut guarantee once for any width": that recovery answers 0 is in it, and that it finds
-- the state's versions is `StatesAgree` of Companions.antt.
abbrev pub PromiseOf : Family → Type 0
PromiseOf F = (widths : Widths) → PromiseAt F widths

-- The same of the volume's own state, as the list left it: it has its 4×P words, so recover answers 0 on it too.
abbrev pub OwnState : Family → Type 0
OwnState F =
    (widths : Widths) (sizes : Sizes) (v : Volume) (events : List Event)
    → Premises F widths sizes v events
    → Recovers F widths sizes (world_after F widths sizes v events).volume.flash (model_after F widths sizes (started F widths sizes v) (fresh_model sizes.width) events).kept (world_after F widths sizes v events).volume.state

-- Promise 3 of document 01's records.
abbrev pub Promise3 : Type 0
Promise3 = PromiseOf back_pointer

-- Promise 3's companions, stated: the paper's invariants, that the premises are met, what ties a call's stages to what it leaves and to a crash in it, that recovery finds the same
-- committed versions and contents before and after a cleaning and a sweep, and after a crash in a sweep, that a block whose cleaning was cut can be cleaned again, how many records a sweep leaves, and how what it blanked is sorted into its erasures.
use Rattle.std.specs.Prelude.{ℕ, ◌+◌, ◌*◌, ◌≤◌, ◌<◌, ◌≡◌, Bool, true, false, not, ◌&&◌, length}
use mathlib.Core.List.{List, [], ◌∷◌, ◌++◌, map, flatten}
use Rattle.bounded.specs.Limits.{Widths}
use Rattle.bounded.specs.Below.{list_below}
use Rattle.sizes.specs.declared.Sizes.{Sizes}
use Rattle.sizes.specs.Blocks.{NamedBlock}
use Rattle.record.specs.Slot.{Slot}
use Rattle.std.specs.Prelude.{Some}
use Rattle.record.specs.Slot.{slot_at, is_blank}
use Rattle.record.specs.Flash.{Step, apply_all_in}
use Rattle.state.specs.declared.PageState.{PageState}
use Rattle.state.specs.State.{state_at, in_flight, is_written}
use Rattle.table.specs.Table.{mentioned, used_of}
use Rattle.rules.specs.Volume.{Volume, slots_in, pages_of}
use Rattle.rules.specs.laws.Volume.{FitsIn}
use Rattle.rules.specs.Read.{read_outcome_in}
use Rattle.upkeep.specs.Swept.{Sorted}
use Rattle.atomicity.specs.Family.{Family, back_pointer}
use Rattle.atomicity.specs.Call.{Call, perform, flash_stages}
use Rattle.atomicity.specs.Run.{Event, was_done, steps_cut_short, happens, world_after}
use Rattle.atomicity.specs.Promise.{Premises}

-- ---- the paper's InvComm and InvUsed

-- recovery on the flash of this volume would find the state's committed versions, and used versions not above the state's
pub record Agrees (F : Family) (P S : ℕ) (v : Volume) : Type 0 where
  pub same_committed : (p : ℕ) → p < P → F.committed P S (slots_in F.layout v) p ≡ (pages_of v p).committed
  pub used_covers : (p : ℕ) → p < P → used_of S (slots_in F.layout v) p ≤ (pages_of v p).used
  -- … nor does the record planned for a page q in flight mention one above them
  pub planned_covers :
      (q : ℕ) → q < P → in_flight (pages_of v q) ≡ true → (p : ℕ) → p < P → mentioned p (Some (F.plan (pages_of v) q)) ≤ (pages_of v p).used

-- after every list under the premises that leaves the state known
abbrev pub StatesAgree : Family → Type 0
StatesAgree F =
    (widths : Widths) (sizes : Sizes) (v : Volume) (events : List Event)
    → Premises F widths sizes v events
    → (world_after F widths sizes v events).lost ≡ false
    → Agrees F sizes.pages sizes.slots (world_after F widths sizes v events).volume

-- ---- the premises are met

-- a list of events under the premises, with one more event behind it
abbrev pub MayFollow : Family → Widths → Sizes → Volume → List Event → Event → Type 0
MayFollow F widths sizes v events e = Premises F widths sizes v (events ++ e ∷ [])

-- the state is known after the list
abbrev pub StateKnown : Family → Widths → Sizes → Volume → List Event → Type 0
StateKnown F widths sizes v events = (world_after F widths sizes v events).lost ≡ false

-- The premises are met: by every volume whose P, S, width and lengths are right, before any event; by every list of calls that return; and a list that meets them
-- still does with a crash behind it, with a recover, returned or crashed, and, where the state is known, with any call, returned or crashed.
pub record PremisesMet (F : Family) : Type 0 where
  pub at_first : (widths : Widths) (sizes : Sizes) (v : Volume) → FitsIn F.layout widths sizes v → Premises F widths sizes v []
  pub calls : (widths : Widths) (sizes : Sizes) (v : Volume) → FitsIn F.layout widths sizes v → (list : List Call) → Premises F widths sizes v (map Event.Returns list)
  pub crash : (widths : Widths) (sizes : Sizes) (v : Volume) (events : List Event) → Premises F widths sizes v events → (state : List ℕ) → length state ≡ 4 * sizes.pages → MayFollow F widths sizes v events (Event.Crash state)
  pub recover : (widths : Widths) (sizes : Sizes) (v : Volume) (events : List Event) → Premises F widths sizes v events → MayFollow F widths sizes v events (Event.Returns Call.Recover)
  pub crashed_recover :
      (widths : Widths) (sizes : Sizes) (v : Volume) (events : List Event) → Premises F widths sizes v events
      → (stage : ℕ) (done : ℕ → Bool) (state : List ℕ) → length state ≡ 4 * sizes.pages → MayFollow F widths sizes v events (Event.CrashIn Call.Recover stage done state)
  pub call : (widths : Widths) (sizes : Sizes) (v : Volume) (events : List Event) → Premises F widths sizes v events → StateKnown F widths sizes v events → (c : Call) → MayFollow F widths sizes v events (Event.Returns c)
  pub crashed_call :
      (widths : Widths) (sizes : Sizes) (v : Volume) (events : List Event) → Premises F widths sizes v events → StateKnown F widths sizes v events
      → (c : Call) (stage : ℕ) (done : ℕ → Bool) (state : List ℕ) → length state ≡ 4 * sizes.pages → MayFollow F widths sizes v events (Event.CrashIn c stage done state)
  -- and behind a recover the state is known
  pub recover_finds : (widths : Widths) (sizes : Sizes) (v : Volume) (events : List Event) → Premises F widths sizes v events → StateKnown F widths sizes v (events ++ Event.Returns Call.Recover ∷ [])

-- ---- stages

-- What ties a call's stages to what it leaves, and a crash to the stages.
pub record StagesInOrder (F : Family) : Type 0 where
  -- a call that returns leaves the flash that all its stages leave, done one after the other
  pub performed : (widths : Widths) (sizes : Sizes) (v : Volume) (call : Call) → (perform F widths sizes v call).left.flash ≡ apply_all_in F.layout sizes.width v.flash (flatten (flash_stages F widths sizes v call))
  -- a crash past the last stage leaves all done
  pub past_last : (stage : ℕ) (done : ℕ → Bool) (stages : List (List Step)) → length stages ≤ stage → steps_cut_short stage done stages ≡ flatten stages
  -- of the crash's own stage any steps were done, and of one behind it none
  pub own_stage : (stage : ℕ) (done : ℕ → Bool) (i : ℕ) → was_done stage done stage i ≡ done i
  pub none_behind : (stage : ℕ) (done : ℕ → Bool) (k i : ℕ) → stage < k → was_done stage done k i ≡ false
  -- where a step of a stage was done, every step of each stage before it was
  pub in_order : (stage : ℕ) (done : ℕ → Bool) (k i j n : ℕ) → was_done stage done k i ≡ true → j < k → was_done stage done j n ≡ true

-- ---- cleaning

-- recovery on both volumes answers 0, finds the same committed version of each page, and read then answers 0 on both and copies the same contents
pub record SameFound (F : Family) (widths : Widths) (sizes : Sizes) (v w : Volume) : Type 0 where
  pub answers : ((F.recover widths sizes v).answer ≡ 0) × ((F.recover widths sizes w).answer ≡ 0)
  pub same_versions : (p : ℕ) → p < sizes.pages → (state_at (F.recover widths sizes v).left p).committed ≡ (state_at (F.recover widths sizes w).left p).committed
  pub same_contents :
      (page : ℕ) (out : List ℕ)
      → page < sizes.pages
      → length out ≡ sizes.width
      → read_outcome_in F.layout widths sizes (record { flash = v.flash; state = (F.recover widths sizes v).left }) page out
      ≡ read_outcome_in F.layout widths sizes (record { flash = w.flash; state = (F.recover widths sizes w).left }) page out
  pub both_read :
      (page : ℕ) (out : List ℕ)
      → page < sizes.pages
      → length out ≡ sizes.width
      → ((read_outcome_in F.layout widths sizes (record { flash = v.flash; state = (F.recover widths sizes v).left }) page out).answer ≡ 0)
      × ((read_outcome_in F.layout widths sizes (record { flash = w.flash; state = (F.recover widths sizes w).left }) page out).answer ≡ 0)

-- after every list under the premises that leaves the state known, recovery straight before a cleaning and after it, whichever block it is of, by whatever table
abbrev pub CleaningUnseen : Family → Type 0
CleaningUnseen F =
    (widths : Widths) (sizes : Sizes) (v : Volume) (events : List Event)
    → Premises F widths sizes v events
    → StateKnown F widths sizes v events
    → (block : NamedBlock)
    → SameFound F widths sizes (world_after F widths sizes v events).volume (perform F widths sizes (world_after F widths sizes v events).volume (Call.Clean block)).left

-- what may befall a block's cleaning until it is done: a crash in it, one in a recover or between two calls, and a recover
pub data Setback : Type 0 where
  InCleaning : (stage : ℕ) (done : ℕ → Bool) (state : List ℕ) → Setback
  InRecover : (stage : ℕ) (done : ℕ → Bool) (state : List ℕ) → Setback
  Between : (state : List ℕ) → Setback
  Recovered : Setback

unfoldable pub befalls : NamedBlock → Setback → Event
befalls block (InCleaning stage done state) = Event.CrashIn (Call.Clean block) stage done state
befalls block (InRecover stage done state) = Event.CrashIn Call.Recover stage done state
befalls block (Between state) = Event.Crash state
befalls block Recovered = Event.Returns Call.Recover

-- After every list under the premises that leaves the state known: a block whose cleaning is accepted, by whatever table, can be cleaned after cuts in that cleaning too, however often it is cut, and the recovery
-- with it, once a recover has found the state again: it is never refused by 15 then.
abbrev pub CleanedAfterCut : Type 0
CleanedAfterCut =
    (widths : Widths) (sizes : Sizes) (v : Volume) (events : List Event) (block : NamedBlock) (setbacks : List Setback)
    → StateKnown back_pointer widths sizes v events
    → (perform back_pointer widths sizes (world_after back_pointer widths sizes v events).volume (Call.Clean block)).answer ≡ 0
    → Premises back_pointer widths sizes v (events ++ map (befalls block) setbacks)
    → StateKnown back_pointer widths sizes v (events ++ map (befalls block) setbacks)
    → (perform back_pointer widths sizes (world_after back_pointer widths sizes v (events ++ map (befalls block) setbacks)).volume (Call.Clean block)).answer ≡ 0

-- ---- sweeping

-- how many slots hold a record
unfoldable pub records_in : (S : ℕ) → (ℕ → Slot) → ℕ
records_in S t = length (list_below S (λ k. not (is_blank (t k))))

-- how many are "the written pages in flight"
unfoldable pub written_pages : (P : ℕ) → (ℕ → PageState) → ℕ
written_pages P st = length (list_below P (λ p. in_flight (st p) && is_written (st p)))

-- A sweep of this volume:
pub record Sweeps (widths : Widths) (sizes : Sizes) (v : Volume) : Type 0 where
  -- it is done
  pub answers : (perform back_pointer widths sizes v Call.Sweep).answer ≡ 0
  -- "the number of records left is exactly P plus the written pages in flight"
  pub records_left : records_in sizes.slots (slot_at (perform back_pointer widths sizes v Call.Sweep).left.flash.words) ≡ sizes.pages + written_pages sizes.pages (pages_of v)
  -- the slots that it blanked, sorted by their old record with the state, are its three erasures
  pub sorted : Sorted sizes v (perform back_pointer widths sizes v Call.Sweep).left.flash
  -- "recovery straight before and after gives the same contents for all pages"
  pub unseen : SameFound back_pointer widths sizes v (perform back_pointer widths sizes v Call.Sweep).left
  -- "The contents come back the same after a cut during the sweep too", whatever the state then holds
  pub unseen_cut :
      (stage : ℕ) (done : ℕ → Bool) (state : List ℕ)
      → length state ≡ 4 * sizes.pages
      → SameFound back_pointer widths sizes v (happens back_pointer widths sizes (record { volume = v; lost = false }) (Event.CrashIn Call.Sweep stage done state)).volume

-- "For any volume and sheet that promise 3's lists reach under its premises, recovery having answered 0 after each cut": after every list under the premises that leaves the state known
abbrev pub Sweeping : Type 0
Sweeping =
    (widths : Widths) (sizes : Sizes) (v : Volume) (events : List Event)
    → Premises back_pointer widths sizes v events
    → StateKnown back_pointer widths sizes v events
    → Sweeps widths sizes (world_after back_pointer widths sizes v events).volume

-- The invariant of a run: while the state is known, and after a crash until a recover has answered 0.
use Rattle.std.specs.Prelude.{ℕ, ◌≡◌, List, [], true, false}
use Rattle.bounded.specs.Limits.{Widths}
use Rattle.sizes.specs.declared.Sizes.{Sizes}
use Rattle.record.specs.declared.Record.{Record}
use Rattle.record.specs.Slot.{slot_in}
use Rattle.record.specs.Flash.{Flash}
use Rattle.state.specs.declared.PageState.{PageState}
use Rattle.state.specs.State.{state_at}
use Rattle.state.specs.StateLaws.{StateFacts}
use Rattle.rules.specs.Volume.{Volume}
use Rattle.rules.specs.laws.Volume.{FitsIn}
use Rattle.protocol.specs.View.{pointing_view}
use Rattle.protocol.specs.Shared.{SharedLive, comm_of}
use Rattle.atomicity.specs.Family.{Family}
use Rattle.atomicity.specs.Run.{World}
use Rattle.atomicity.specs.Model.{Model}
use Rattle.atomicity.proofs.steps.Sparing.{HeldIn}
use Rattle.atomicity.proofs.steps.Theory.{Theory}
use Rattle.atomicity.specs.rings.Match.{IsEntered, RingsMatch}

-- the (record, contents) pairs that the slots of a flash hold
abbrev pub Held : Family → (w S : ℕ) → Flash → Record → List ℕ → Type 0
Held F w S f = HeldIn F.layout w S f

module _ {F : Family} (T : Theory F) (sizes : Sizes) where
  -- The state st is known: it is sound, its committed versions are those of the records, and its flights are the model's open rings.
  pub record Live (f : Flash) (st : ℕ → PageState) (m : Model) : Type 0 where
    pub sound : StateFacts sizes.pages st
    pub apart : T.Apart sizes.slots (slot_in F.layout f.words)
    pub core : T.Core (Held F sizes.width sizes.slots f) (comm_of st) sizes.pages m.kept
    pub live : SharedLive (pointing_view T.back) sizes.pages (Held F sizes.width sizes.slots f) st (IsEntered m.rings)
    pub rings : RingsMatch sizes.pages st m.rings

  -- The state is lost: some committed versions are those of the records, and the model has no open ring.
  pub record Lost (f : Flash) (m : Model) : Type 0 where
    pub comm : ℕ → ℕ
    pub apart : T.Apart sizes.slots (slot_in F.layout f.words)
    pub core : T.Core (Held F sizes.width sizes.slots f) comm sizes.pages m.kept
    pub closed : m.rings ≡ []

module _ {F : Family} (T : Theory F) (widths : Widths) (sizes : Sizes) where
  -- the invariant of a volume whose state is known
  pub record Known (v : Volume) (m : Model) : Type 0 where
    pub fits : FitsIn F.layout widths sizes v
    pub live : Live T sizes v.flash (state_at v.state) m

  -- the invariant of a run
  pub data Holding (x : World) (m : Model) : Type 0 where
    known : x.lost ≡ false → FitsIn F.layout widths sizes x.volume → Live T sizes x.volume.flash (state_at x.volume.state) m → Holding x m
    unknown : x.lost ≡ true → FitsIn F.layout widths sizes x.volume → Lost T sizes x.volume.flash m → Holding x m

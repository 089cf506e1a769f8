-- Fewer records, each removed one obsolete or exposed and not current, keep the invariant of records without a back pointer.
use Rattle.std.specs.Prelude.{ℕ, ◌≡◌, List, true}
use Rattle.std.proofs.Common.{subst}
use Rattle.record.specs.declared.Record.{Record}
use Rattle.record.specs.Slot.{Slot}
use Rattle.std.specs.Prelude.{Some}
use Rattle.state.specs.declared.PageState.{PageState}
use Rattle.state.specs.StateLaws.{StateFacts}
use Rattle.rules.specs.Simple.{simple_may_erase}
use Rattle.rules.proofs.laws.Simple.{simple_may_erase_exactly}
use Rattle.protocol.specs.Shared.{SharedLive, comm_of}
use Rattle.protocol.specs.Permitted.{Spare}
use Rattle.protocol.proofs.Fewer.{Erases, fewer_records, shared_core_fewer, live_spared}
use Rattle.protocol.specs.simple.Core.{simple_view, SimpleCore}

-- an obsolete record, or an exposed record other than one whose page is in flight with v = used
abbrev pub SimplePermitted : (ℕ → PageState) → Record → Type 0
SimplePermitted st = Spare simple_view st

-- the permission of a slot is that of its record
pub simple_may_erase_permitted :
    (t : ℕ → Slot) (st : ℕ → PageState) (k : ℕ) (r : Record) → simple_may_erase t st k ≡ true → t k ≡ Some r → SimplePermitted st r
simple_may_erase_permitted t st k r e h =
    let w = (simple_may_erase_exactly t st k).0 e in
    let same : w.0 ≡ r = cc w.1 in
    subst (SimplePermitted st) same w.2

-- every record stays or may be erased
abbrev pub SimpleErased : (R R' : Record → List ℕ → Type 0) → (ℕ → PageState) → Type 1
SimpleErased R R' st = Erases R R' SimplePermitted st

module _ {P : ℕ} {R R' : Record → List ℕ → Type 0} {st : ℕ → PageState} (erased : SimpleErased R R' st) where
  open erased use {fewer}

  -- the invariant of what stays
  pub simple_fewer : {kept : ℕ → List ℕ} → SimpleCore R (comm_of st) P kept → SimpleCore R' (comm_of st) P kept
  simple_fewer core =
      record {
        shared = shared_core_fewer simple_view (fewer_records simple_view erased (λ r g. g)) core.shared;
        own = record {
          exposed_highest = λ r s b d w u. core.own.exposed_highest r s b d (fewer r b w) (fewer s d u);
          exposed_ahead = λ r b w l. let a = core.own.exposed_ahead r b (fewer r b w) l in (a.0, λ s d u. a.1 s d (fewer s d u));
        };
      }

  -- what stays is to the state as it was: the records of pages in flight at their used versions stay
  pub simple_live_erased : {Entered : ℕ → List ℕ → Type 0} → StateFacts P st → SharedLive simple_view P R st Entered → SharedLive simple_view P R' st Entered
  simple_live_erased state live = live_spared simple_view erased (λ r g. g) state live

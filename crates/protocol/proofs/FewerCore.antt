-- An erase of five-word records keeps the core, and what is live.
use Rattle.std.specs.Prelude.{ℕ, List}
use Rattle.std.proofs.Math.Logic.{inl, inr}
use Rattle.record.specs.declared.Record.{Record}
use Rattle.state.specs.declared.PageState.{PageState}
use Rattle.state.specs.StateLaws.{StateFacts}
use Rattle.protocol.specs.View.{record_view, Exposed}
use Rattle.protocol.specs.Shared.{SharedLive, comm_of}
use Rattle.protocol.specs.BackPointer.{AheadOrStraddled, Core}
use Rattle.protocol.proofs.Fewer.{shared_core_fewer, fewer_records, live_spared, Erased, permitted_spare, straddler_stays}

module _ {P : ℕ} {R R' : Record → List ℕ → Type 0} {st : ℕ → PageState} {kept : ℕ → List ℕ}
    (erased : Erased R R' st) (core : Core R (comm_of st) P kept) where
  open erased use {fewer}
  open core use {shared, own}
  open own use {exposed_back, committed_clear, exposed_link}

  pub core_fewer : Core R' (comm_of st) P kept
  core_fewer =
      record {
        shared = shared_core_fewer record_view (fewer_records record_view erased (permitted_spare R st)) shared;
        own = record {
          exposed_back = λ r b w. exposed_back r b (fewer r b w);
          committed_clear = λ r K b d w u. committed_clear r K b d (fewer r b w) (fewer K d u);
          exposed_link = λ r b w l. over r b w l (exposed_link r b (fewer r b w) l);
        };
      }
    where
      over :
          (r : Record) (b : List ℕ)
          → R' r b
          → Exposed record_view (comm_of st) r
          → AheadOrStraddled R (comm_of st) r
          → AheadOrStraddled R' (comm_of st) r
      over r b w l (inl a) = inl a
      over r b w l (inr k) = inr (straddler_stays erased core r b w l k.0 k.1 k.2 k.3 k.4)

  pub live_erased : {Entered : ℕ → List ℕ → Type 0} → StateFacts P st → SharedLive record_view P R st Entered → SharedLive record_view P R' st Entered
  live_erased state live = live_spared record_view erased (permitted_spare R st) state live

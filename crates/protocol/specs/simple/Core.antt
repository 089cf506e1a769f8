-- The clauses of records without a back pointer: an exposed record is its page's highest, and its link is not below the next page's highest.
use Prim.Native.Nat.{ℕ, zero, suc, ◌≤◌, ◌<◌}
use Rattle.std.specs.Prelude.{◌≡◌, List}
use Rattle.std.proofs.Math.Logic.{inl, inr}
use Rattle.record.specs.declared.Record.{Record}
use Rattle.protocol.specs.View.{View, Exposed, record_view, pointing_view}
use Rattle.protocol.specs.Shared.{SharedCore, OpenWithin}

-- four-word records: the planned one points back at 0, as every one does
abbrev pub simple_view : View Record
simple_view = pointing_view (λ u c. 0)

module _ (R : Record → List ℕ → Type 0) (comm : ℕ → ℕ) where
  pub record SimpleClauses : Type 0 where
    -- an exposed record is its page's highest
    pub exposed_highest : (r s : Record) (b d : List ℕ) → R r b → R s d → Exposed simple_view comm r → s.p ≡ r.p → s.v ≤ r.v
    -- an exposed record links above the committed version, and not below any record of the next page
    pub exposed_ahead :
        (r : Record) (b : List ℕ)
        → R r b
        → Exposed simple_view comm r
        → (comm r.np < r.nv) × ((s : Record) (d : List ℕ) → R s d → s.p ≡ r.np → s.v ≤ r.nv)

  -- the part of the invariant that a crash leaves, whole
  pub record SimpleCore (P : ℕ) (kept : ℕ → List ℕ) : Type 0 where
    pub shared : SharedCore simple_view R comm P kept
    pub own : SimpleClauses

-- The shared clauses look at no planned record, so they are the same of four-word records and of five-word ones.
module _ {R : Record → List ℕ → Type 0} {comm : ℕ → ℕ} {P : ℕ} {kept : ℕ → List ℕ} (core : SharedCore simple_view R comm P kept) where
  open_seen : (k : ℕ) (r : Record) → OpenWithin simple_view R comm k r → OpenWithin record_view R comm k r
  unfolding OpenWithin
  open_seen zero r o = o
  open_seen (suc k) r (inl o) = inl o
  open_seen (suc k) r (inr o) = inr (o.0, o.1, o.2, o.3, open_seen k o.0 o.4)

  pub shared_seen : SharedCore record_view R comm P kept
  shared_seen =
      record {
        all_sound = core.all_sound;
        one_record = core.one_record;
        committed_kept = core.committed_kept;
        committed_link = core.committed_link;
        links_apart = core.links_apart;
        exposed_open = λ r b w l. let o = core.exposed_open r b w l in (o.0, open_seen o.0 r o.1);
      }

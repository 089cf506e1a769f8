-- The clauses of records with a back pointer: an exposed record points back at the committed version, and straddlers tell abandoned links from committed ones.
use Rattle.std.specs.Prelude.{ℕ, ◌≤◌, ◌<◌, ◌≡◌, List, ◌⊎◌}
use Rattle.record.specs.declared.Record.{Record}
use Rattle.record.specs.SlotLaws.{Straddles}
use Rattle.protocol.specs.View.{Exposed, IsCommitted, record_view}
use Rattle.protocol.specs.Shared.{SharedCore}

module _ (R : Record → List ℕ → Type 0) (comm : ℕ → ℕ) where
  -- r links to a version above the committed one, or a record not above the committed one straddles its link
  abbrev pub AheadOrStraddled : Record → Type 0
  AheadOrStraddled r = (comm r.np < r.nv) ⊎ ((K : Record) × (d : List ℕ) × R K d × (K.v ≤ comm r.np) × Straddles K r)

  pub record BackPointerCore : Type 0 where
    -- an exposed record points back at its page's committed version
    pub exposed_back : (r : Record) (b : List ℕ) → R r b → Exposed record_view comm r → r.c ≡ comm r.p
    -- no record straddles a committed record's link
    pub committed_clear : (r K : Record) (b d : List ℕ) → R r b → R K d → IsCommitted record_view comm r → Straddles K r → ⊥
    -- an exposed record's link is ahead or straddled
    pub exposed_link : (r : Record) (b : List ℕ) → R r b → Exposed record_view comm r → AheadOrStraddled r

  -- the part of the invariant that a crash leaves, whole
  pub record Core (P : ℕ) (kept : ℕ → List ℕ) : Type 0 where
    pub shared : SharedCore record_view R comm P kept
    pub own : BackPointerCore

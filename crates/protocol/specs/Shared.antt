-- The clauses that any family of cyclic-commit records has: they see a record as page, version, link and contents.
use Rattle.std.specs.Prelude.{ℕ, zero, suc, ◌≤◌, ◌<◌, ◌≡◌, List, ◌⊎◌, true, false}
use Rattle.state.specs.declared.PageState.{PageState}
use Rattle.state.specs.State.{in_flight, is_written}
use Rattle.protocol.specs.View.{View, Exposed, IsCommitted, LinksTo, IsAt}

module _ {X : Type 0} (view : View X) (R : X → List ℕ → Type 0) (comm : ℕ → ℕ) where
  -- the link of r is committed already, or leads to no record
  abbrev pub OpenAtOnce : X → Type 0
  OpenAtOnce r = (view.next_version r ≤ comm (view.next_page r)) ⊎ ((t : X) (d : List ℕ) → R t d → LinksTo view r t → ⊥)

  -- the links from r lead, by at most k records, to such a record: what it belongs to is not complete
  unfoldable pub OpenWithin : ℕ → X → Type 0
  OpenWithin zero r = OpenAtOnce r
  OpenWithin (suc k) r = OpenAtOnce r ⊎ ((t : X) × (d : List ℕ) × R t d × LinksTo view r t × OpenWithin k t)

  abbrev pub Open : X → Type 0
  Open r = (k : ℕ) × OpenWithin k r

  -- What the records are, whatever the state says: the part of the invariant that a crash leaves.
  pub record SharedCore (P : ℕ) (kept : ℕ → List ℕ) : Type 0 where
    -- every record is sound
    pub all_sound : (r : X) (b : List ℕ) → R r b → view.sound P r ≡ true
    -- records of equal page and version are one, with one contents
    pub one_record : (r s : X) (b d : List ℕ) → R r b → R s d → view.page r ≡ view.page s → view.version r ≡ view.version s → (r ≡ s) × (b ≡ d)
    -- each page has its committed version, with the kept contents
    pub committed_kept : (p : ℕ) → p < P → (r : X) × R r (kept p) × IsAt view r p (comm p)
    -- a committed record links to a version that is committed or older
    pub committed_link : (r : X) (b : List ℕ) → R r b → IsCommitted view comm r → view.next_version r ≤ comm (view.next_page r)
    -- committed records of different pages have different links
    pub links_apart :
        (r s : X) (b d : List ℕ)
        → R r b
        → R s d
        → IsCommitted view comm r
        → IsCommitted view comm s
        → view.next_page r ≡ view.next_page s
        → view.next_version r ≡ view.next_version s
        → view.page r ≡ view.page s
    -- no exposed record belongs to a complete cycle
    pub exposed_open : (r : X) (b : List ℕ) → R r b → Exposed view comm r → Open r

-- the committed and used versions of a state
abbrev pub comm_of : (ℕ → PageState) → ℕ → ℕ
comm_of st p = (st p).committed

abbrev pub used_in : (ℕ → PageState) → ℕ → ℕ
used_in st p = (st p).used

module _ {X : Type 0} (view : View X) where
  -- the record planned for page p
  abbrev pub plan : (ℕ → PageState) → ℕ → X
  plan st p = view.planned p (st p).used (st p).committed (st p).next (st (st p).next).used

  -- no record and no link is above its page's used version
  pub record WithinUsed (R : X → List ℕ → Type 0) (used : ℕ → ℕ) : Type 0 where
    pub version_used : (r : X) (b : List ℕ) → R r b → view.version r ≤ used (view.page r)
    pub link_used : (r : X) (b : List ℕ) → R r b → view.next_version r ≤ used (view.next_page r)

  -- What the records are to a known state, with the contents entered for pages in flight.
  pub record SharedLive (P : ℕ) (R : X → List ℕ → Type 0) (st : ℕ → PageState) (Entered : ℕ → List ℕ → Type 0) : Type 0 where
    pub within_used : WithinUsed R (used_in st)
    -- a written page's planned record is stored, with the contents entered for the page
    pub written_stored : (p : ℕ) → p < P → in_flight (st p) ≡ true → is_written (st p) ≡ true → (b : List ℕ) × R (plan st p) b × Entered p b
    -- of a page in flight and not written there is no record at its used version
    pub unwritten_absent :
        (p : ℕ) → p < P → in_flight (st p) ≡ true → is_written (st p) ≡ false → (r : X) (b : List ℕ) → R r b → IsAt view r p (st p).used → ⊥
    -- only a page's predecessor on its cycle links to its used version
    pub link_planned :
        (p : ℕ)
        → p < P
        → in_flight (st p) ≡ true
        → (r : X) (b : List ℕ)
        → R r b
        → view.next_page r ≡ p
        → view.next_version r ≡ (st p).used
        → (in_flight (st (view.page r)) ≡ true) × ((st (view.page r)).next ≡ p)

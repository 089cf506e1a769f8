-- One record more, the one planned for a page in flight and not written: what holds whether or not its cycle is then complete.
use Rattle.std.specs.Prelude.{ℕ, ◌≤◌, ◌<◌, ◌≡◌, List, ◌⊎◌, true, false}
use Rattle.std.proofs.Common.{arith, sym, ap, ◌∙◌, subst, inl, inr}
use Rattle.record.specs.declared.Record.{Record}
use Rattle.record.specs.SlotLaws.{Straddles}
use Rattle.state.specs.declared.PageState.{PageState}
use Rattle.state.specs.State.{is_written}
use Rattle.state.specs.StateLaws.{StateFacts}
use Rattle.state.specs.CycleLaws.{Flies, next_flies}
use Rattle.protocol.specs.View.{View, record_view, planned_record_back, LinksTo, IsCommitted}
use Rattle.protocol.specs.Shared.{SharedCore, SharedLive, WithinUsed, plan, comm_of, used_in}

-- the set R with the pair of r and these bytes added
pub record Adds {X : Type 0} (R R' : X → List ℕ → Type 0) (r : X) (bytes : List ℕ) : Type 0 where
  pub grows : (x : X) (b : List ℕ) → R x b → R' x b
  pub added : R' r bytes
  pub old_or_new : (x : X) (b : List ℕ) → R' x b → R x b ⊎ ((x ≡ r) × (b ≡ bytes))

-- page p's planned record is added, with these bytes
pub record Writes {X : Type 0} (view : View X) (P : ℕ) (R R' : X → List ℕ → Type 0) (st : ℕ → PageState) (p : ℕ) (bytes : List ℕ) : Type 0 where
  pub state : StateFacts P st
  pub flies : Flies P st p
  pub unwritten : is_written (st p) ≡ false
  pub plan_sound : view.sound P (plan view st p) ≡ true
  pub adds : Adds R R' (plan view st p) bytes

-- the planned record's page, version and link
module _ {X : Type 0} (view : View X) (st : ℕ → PageState) (q : ℕ) where
  pub plan_page : view.page (plan view st q) ≡ q
  plan_page = view.planned_page q (st q).used (st q).committed (st q).next (st (st q).next).used

  pub plan_version : view.version (plan view st q) ≡ (st q).used
  plan_version = view.planned_version q (st q).used (st q).committed (st q).next (st (st q).next).used

  pub plan_next : view.next_page (plan view st q) ≡ (st q).next
  plan_next = view.planned_next_page q (st q).used (st q).committed (st q).next (st (st q).next).used

  pub plan_next_version : view.next_version (plan view st q) ≡ (st (st q).next).used
  plan_next_version = view.planned_next_version q (st q).used (st q).committed (st q).next (st (st q).next).used

-- the record planned for a page links to the one planned for the next page
pub plan_links : {X : Type 0} (view : View X) (st : ℕ → PageState) (q : ℕ) → LinksTo view (plan view st q) (plan view st (st q).next)
plan_links view st q =
    (plan_page view st (st q).next ∙ sym (plan_next view st q), plan_version view st (st q).next ∙ sym (plan_next_version view st q))

module _ {X : Type 0} (view : View X) {P : ℕ} {R R' : X → List ℕ → Type 0} {st : ℕ → PageState} {p : ℕ} {bytes : List ℕ} {kept : ℕ → List ℕ} {Entered : ℕ → List ℕ → Type 0}
    (writes : Writes view P R R' st p bytes) (core : SharedCore view R (comm_of st) P kept) (live : SharedLive view P R st Entered) where
  open writes use {state, flies, unwritten, plan_sound, adds}
  open adds use {grows, added, old_or_new}
  open core use {all_sound, one_record}
  open live use {within_used, unwritten_absent}

  -- a property of the old records and of the added one is one of all
  pub old_and_new : (Q : X → List ℕ → Type 0) → ((x : X) (b : List ℕ) → R x b → Q x b) → Q (plan view st p) bytes → (x : X) (b : List ℕ) → R' x b → Q x b
  old_and_new Q old new x b w = by (old_or_new x b w)
    where
      by : R x b ⊎ ((x ≡ plan view st p) × (b ≡ bytes)) → Q x b
      by (inl u) = old x b u
      by (inr e) = subst (λ (y : X). Q y b) (sym e.0) (subst (λ (d : List ℕ). Q (plan view st p) d) (sym e.1) new)

  -- no old record is at the added one's page and version
  pub not_there : (x : X) (b : List ℕ) → R x b → view.page x ≡ p → view.version x ≡ (st p).used → ⊥
  not_there x b w e v = unwritten_absent p flies.below flies.flies unwritten x b w (e, v)

  -- a link that led to no record leads to none, unless to the added one
  pub none_more :
      (x : X)
      → ((t : X) (d : List ℕ) → R t d → LinksTo view x t → ⊥)
      → ¬ (LinksTo view x (plan view st p))
      → (t : X) (d : List ℕ)
      → R' t d
      → LinksTo view x t
      → ⊥
  none_more x none other = old_and_new (λ t d. LinksTo view x t → ⊥) none other

  -- the added record is exposed
  pub plan_exposed : (st (view.page (plan view st p))).committed < view.version (plan view st p)
  plan_exposed =
      let l = (state.page p flies.below).flies_below_used flies.flies in
      let a = ap (λ (x : ℕ). (st x).committed) (plan_page view st p) in
      let v = plan_version view st p in
      omega arith

  -- and links above the committed version
  pub plan_ahead : (st (view.next_page (plan view st p))).committed < view.next_version (plan view st p)
  plan_ahead =
      let n = next_flies P st state p flies in
      let l = (state.page (st p).next n.below).flies_below_used n.flies in
      let a = ap (λ (x : ℕ). (st x).committed) (plan_next view st p) in
      let v = plan_next_version view st p in
      omega arith

  -- a committed record is an old one
  pub committed_old : (x : X) (b : List ℕ) → R' x b → IsCommitted view (comm_of st) x → R x b
  committed_old x b w e = by (old_or_new x b w)
    where
      by : R x b ⊎ ((x ≡ plan view st p) × (b ≡ bytes)) → R x b
      by (inl u) = u
      by (inr n) =
          absurd (let c = subst (IsCommitted view (comm_of st)) n.0 e in let l = plan_exposed in omega arith)

  pub all_sound_more : (x : X) (b : List ℕ) → R' x b → view.sound P x ≡ true
  all_sound_more = old_and_new (λ x b. view.sound P x ≡ true) all_sound plan_sound

  pub one_record_more :
      (x y : X) (b d : List ℕ) → R' x b → R' y d → view.page x ≡ view.page y → view.version x ≡ view.version y → (x ≡ y) × (b ≡ d)
  one_record_more x y b d w u = both (old_or_new x b w) (old_or_new y d u)
    where
      both :
          R x b ⊎ ((x ≡ plan view st p) × (b ≡ bytes))
          → R y d ⊎ ((y ≡ plan view st p) × (d ≡ bytes))
          → view.page x ≡ view.page y
          → view.version x ≡ view.version y
          → (x ≡ y) × (b ≡ d)
      both (inl a) (inl c) e v = one_record x y b d a c e v
      both (inl a) (inr c) e v =
          absurd (not_there x b a (e ∙ ap view.page c.0 ∙ plan_page view st p) (v ∙ ap view.version c.0 ∙ plan_version view st p))
      both (inr a) (inl c) e v =
          absurd (not_there y d c (sym e ∙ ap view.page a.0 ∙ plan_page view st p) (sym v ∙ ap view.version a.0 ∙ plan_version view st p))
      both (inr a) (inr c) e v = (a.0 ∙ sym c.0, a.1 ∙ sym c.1)

  pub within_used_more : WithinUsed view R' (used_in st)
  within_used_more =
      record {
        version_used =
            old_and_new (λ x b. view.version x ≤ (st (view.page x)).used) within_used.version_used
            (let a = ap (λ (x : ℕ). (st x).used) (plan_page view st p) in let v = plan_version view st p in omega arith);
        link_used =
            old_and_new (λ x b. view.next_version x ≤ (st (view.next_page x)).used) within_used.link_used
            (let a = ap (λ (x : ℕ). (st x).used) (plan_next view st p) in let v = plan_next_version view st p in omega arith);
      }

-- ---- five-word records

pub plan_back : (st : ℕ → PageState) (q : ℕ) → (plan record_view st q).c ≡ (st q).committed
plan_back st q = planned_record_back q (st q).used (st q).committed (st q).next (st (st q).next).used

module _ {P : ℕ} {R R' : Record → List ℕ → Type 0} {st : ℕ → PageState} {p : ℕ} {bytes : List ℕ} {kept : ℕ → List ℕ} {Entered : ℕ → List ℕ → Type 0}
    (writes : Writes record_view P R R' st p bytes) (core : SharedCore record_view R (comm_of st) P kept) (live : SharedLive record_view P R st Entered) where
  -- the planned record straddles no committed record's link
  pub plan_clear : (x : Record) (b : List ℕ) → R x b → IsCommitted record_view (comm_of st) x → Straddles (plan record_view st p) x → ⊥
  plan_clear x b w e s =
      let l = core.committed_link x b w e in
      let a = ap (λ (y : ℕ). (st y).committed) (sym s.at_next ∙ plan_page record_view st p) in
      let c = plan_back st p in
      let h = s.above_c in
      omega arith

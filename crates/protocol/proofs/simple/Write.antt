-- One planned record more that buries no exposed record keeps the invariant of records without a back pointer, whether or not it completes its cycle.
use Rattle.std.specs.Prelude.{ℕ, ◌≤◌, ◌<◌, ◌≡◌, List, Bool, true, false}
use Rattle.std.proofs.Common.{arith, sym, ap, ◌∙◌, inl, inr}
use Rattle.bounded.specs.Choice.{on_lt, on_test, never}
use Rattle.record.specs.declared.Record.{Record}
use Rattle.record.specs.Slot.{Slot}
use Rattle.record.specs.Slot.{record_sound}
use Rattle.state.specs.declared.PageState.{PageState}
use Rattle.state.specs.StateLaws.{StateFacts}
use Rattle.state.specs.Cycle.{along}
use Rattle.state.specs.CycleLaws.{Flies}
use Rattle.rules.specs.Simple.{would_bury}
use Rattle.rules.proofs.laws.Simple.{buried_exactly}
use Rattle.protocol.specs.View.{InSlots, Exposed}
use Rattle.protocol.specs.Shared.{SharedLive, plan, comm_of}
use Rattle.protocol.proofs.Stored.{Writes, plan_page, plan_version, plan_next, plan_next_version, plan_ahead, old_and_new, within_used_more}
use Rattle.protocol.proofs.OneMore.{Missing, shared_core_more}
use Rattle.protocol.proofs.Completed.{Completes, StillExposed, still_exposed, not_into, comm_off, stored_on, shared_core_completed}
use Rattle.protocol.proofs.WriteSteps.{planned_sound_back}
use Rattle.protocol.specs.simple.Core.{simple_view, SimpleCore}

-- a write of page p buries no exposed record: none is of p, nor links to p, below the used version
pub record NotBuried (R : Record → List ℕ → Type 0) (st : ℕ → PageState) (p : ℕ) : Type 0 where
  pub by_page : (J : Record) (b : List ℕ) → R J b → Exposed simple_view (comm_of st) J → J.p ≡ p → J.v < (st p).used → ⊥
  pub by_link : (J : Record) (b : List ℕ) → R J b → Exposed simple_view (comm_of st) J → J.np ≡ p → J.nv < (st p).used → ⊥

-- the record planned for a page in flight is sound
pub simple_planned_sound : (P : ℕ) (st : ℕ → PageState) (sound : StateFacts P st) (p : ℕ) → Flies P st p → record_sound P (plan simple_view st p) ≡ true
simple_planned_sound P st sound p f = let l = (sound.page p f.below).flies_below_used f.flies in planned_sound_back P st sound p f 0 (omega arith)

-- where "a record would be buried" is false, none is
pub not_buried : (S : ℕ) (t : ℕ → Slot) (bytes : ℕ → List ℕ) (st : ℕ → PageState) (p : ℕ) → would_bury S t st p ≡ false → NotBuried (InSlots S t bytes) st p
not_buried S t bytes st p e =
    record {
      by_page = λ J b w x q l. never ((buried_exactly S t st p).1 (w.0, J, w.1, w.2, (x, inl (q, l)))) e;
      by_link = λ J b w x q l. never ((buried_exactly S t st p).1 (w.0, J, w.1, w.2, (x, inr (q, l)))) e;
    }

module _ {P : ℕ} {R R' : Record → List ℕ → Type 0} {st : ℕ → PageState} {p : ℕ} {bytes : List ℕ} {kept : ℕ → List ℕ} {Entered : ℕ → List ℕ → Type 0}
    (writes : Writes simple_view P R R' st p bytes) (core : SimpleCore R (comm_of st) P kept) (live : SharedLive simple_view P R st Entered) (clear : NotBuried R st p) where
  open core use {shared, own}
  open own use {exposed_highest, exposed_ahead}
  open live use {within_used}

  -- what was exposed is still its page's highest: a record of page p is not below the used version;
  still_highest : (x : Record) (b : List ℕ) → R x b → Exposed simple_view (comm_of st) x → (s : Record) (d : List ℕ) → R' s d → s.p ≡ x.p → s.v ≤ x.v
  still_highest x b w l =
      old_and_new simple_view writes shared live (λ s d. s.p ≡ x.p → s.v ≤ x.v)
      (λ s d u. exposed_highest x s b d w u l)
      (λ e. let v = plan_version simple_view st p in
      on_lt x.v (st p).used
      (λ m. absurd (clear.by_page x b w l (sym e ∙ plan_page simple_view st p) m))
      (λ m. omega arith))

  -- and its link is still not below the next page's highest: a link to page p is not below it either
  still_ahead : (x : Record) (b : List ℕ) → R x b → Exposed simple_view (comm_of st) x → (s : Record) (d : List ℕ) → R' s d → s.p ≡ x.np → s.v ≤ x.nv
  still_ahead x b w l =
      old_and_new simple_view writes shared live (λ s d. s.p ≡ x.np → s.v ≤ x.nv)
      (exposed_ahead x b w l).1
      (λ e. let v = plan_version simple_view st p in
      on_lt x.nv (st p).used
      (λ m. absurd (clear.by_link x b w l (sym e ∙ plan_page simple_view st p) m))
      (λ m. omega arith))

  -- ---- some page of p's cycle is missing

  -- the added record is its page's highest, and its link not below the next page's: no record is above its page's used version
  added_highest : (s : Record) (d : List ℕ) → R' s d → s.p ≡ (plan simple_view st p).p → s.v ≤ (plan simple_view st p).v
  added_highest s d u e =
      let l = (within_used_more simple_view writes shared live).version_used s d u in
      let a = ap (λ (y : ℕ). (st y).used) (e ∙ plan_page simple_view st p) in
      let v = plan_version simple_view st p in
      omega arith

  added_ahead : (s : Record) (d : List ℕ) → R' s d → s.p ≡ (plan simple_view st p).np → s.v ≤ (plan simple_view st p).nv
  added_ahead s d u e =
      let l = (within_used_more simple_view writes shared live).version_used s d u in
      let a = ap (λ (y : ℕ). (st y).used) (e ∙ plan_next simple_view st p) in
      let v = plan_next_version simple_view st p in
      omega arith

  -- the invariant with the record added
  pub simple_more : (d : ℕ) × Missing st p (along st (st p).next d) → SimpleCore R' (comm_of st) P kept
  simple_more gap =
      record {
        shared = shared_core_more simple_view writes shared live gap;
        own = record {
          exposed_highest = λ r s b d w u l.
              old_and_new simple_view writes shared live (λ x b. Exposed simple_view (comm_of st) x → s.p ≡ x.p → s.v ≤ x.v)
              (λ x b w l. still_highest x b w l s d u)
              (λ l. added_highest s d u)
              r b w l;
          exposed_ahead =
              old_and_new simple_view writes shared live
              (λ x b. Exposed simple_view (comm_of st) x
              → ((st x.np).committed < x.nv) × ((s : Record) (d : List ℕ) → R' s d → s.p ≡ x.np → s.v ≤ x.nv))
              (λ x b w l. ((exposed_ahead x b w l).0, still_ahead x b w l))
              (λ l. (plan_ahead simple_view writes shared live, added_ahead));
        };
      }

  -- ---- the cycle is complete

  module _ {st' : ℕ → PageState} {cycle : ℕ → Bool} {kept' : ℕ → List ℕ} {Entered' : ℕ → List ℕ → Type 0} (completes : Completes P st st' p bytes cycle kept kept' Entered Entered') where
    -- an exposed record is an old one, of a page off the cycle, and was exposed
    still : (x : Record) (b : List ℕ) → R' x b → Exposed simple_view (comm_of st') x → StillExposed simple_view writes completes shared live x b
    still = still_exposed simple_view writes completes shared live

    -- an exposed record links off the cycle: into it its link would be at the used version
    links_off : (x : Record) (b : List ℕ) → StillExposed simple_view writes completes shared live x b → cycle x.np ≡ false
    links_off x b s =
        on_test (cycle x.np)
        (λ c. absurd
        (let q = x.np in
        let a = still_ahead x b s.old s.before (plan simple_view st q) (kept' q) (stored_on simple_view writes completes shared live q c) (plan_page simple_view st q) in
        let u = within_used.link_used x b s.old in
        let v = plan_version simple_view st q in
        not_into simple_view writes completes shared live x b s c (omega arith)))
        (λ c. c)

    -- the invariant with the cycle's versions committed
    pub simple_completed : SimpleCore R' (comm_of st') P kept'
    simple_completed =
        record {
          shared = shared_core_completed simple_view writes completes shared live;
          own = record {
            exposed_highest = λ r s b d w u l. let e = still r b w l in still_highest r b e.old e.before s d u;
            exposed_ahead = λ r b w l. let e = still r b w l in
                let a = (exposed_ahead r b e.old e.before).0 in
                let q = comm_off simple_view writes completes shared live r.np (simple_view.sound_next P r (shared.all_sound r b e.old)) (links_off r b e) in
                (omega arith, still_ahead r b e.old e.before);
          };
        }

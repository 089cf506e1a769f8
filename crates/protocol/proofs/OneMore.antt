-- One planned record more, with a page of its cycle still to be written, keeps the invariant.
use Prim.Native.Nat.{ℕ, zero, suc, ◌<◌}
use Rattle.std.proofs.Common.{arith, sym, ◌∙◌, subst}
use Rattle.std.specs.Prelude.{◌≡◌, List, ◌⊎◌, true, false, eqb}
use Rattle.std.proofs.Math.Path.{ap}
use Rattle.std.proofs.Math.Logic.{inl, inr}
use Rattle.std.proofs.Math.Bool.{not}
use Rattle.bounded.specs.Choice.{on_eq, on_test, never}
use Rattle.bounded.specs.Limits.{no_number}
use Rattle.record.specs.declared.Record.{Record}
use Rattle.record.specs.SlotLaws.{Straddles}
use Rattle.state.specs.declared.PageState.{PageState}
use Rattle.state.specs.State.{in_flight, is_written}
use Rattle.state.specs.Cycle.{along}
use Rattle.state.specs.CycleLaws.{Flies, next_flies, along_zero, along_front}
use Rattle.protocol.specs.View.{View, record_view, LinksTo, decide_links, IsAt, Exposed}
use Rattle.protocol.specs.Shared.{SharedCore, SharedLive, OpenAtOnce, OpenWithin, Open, plan, comm_of}
use Rattle.protocol.specs.BackPointer.{AheadOrStraddled, Core}
use Rattle.protocol.proofs.Stored.{Writes, plan_page, plan_next, plan_next_version, plan_links, old_and_new, none_more, committed_old, all_sound_more, one_record_more, within_used_more, plan_back, plan_clear, plan_ahead}

-- once page p is written, page u is still to be
abbrev pub Missing : (ℕ → PageState) → (p u : ℕ) → Type 0
Missing st p u = (is_written (st u) ≡ false) × ¬ (u ≡ p)

module _ {X : Type 0} (view : View X) {P : ℕ} {R R' : X → List ℕ → Type 0} {st : ℕ → PageState} {p : ℕ} {bytes : List ℕ} {kept : ℕ → List ℕ} {Entered : ℕ → List ℕ → Type 0}
    (writes : Writes view P R R' st p bytes) (core : SharedCore view R (comm_of st) P kept) (live : SharedLive view P R st Entered) where
  open writes use {state, flies, unwritten, adds}
  open adds use {grows, added, old_or_new}
  open core use {committed_kept, committed_link, links_apart, exposed_open}
  open live use {written_stored, unwritten_absent, link_planned}

  -- the record planned for a page whose next page is missing links to no record
  plan_at_once : (q : ℕ) → Flies P st q → Missing st p (st q).next → OpenAtOnce view R' (comm_of st) (plan view st q)
  plan_at_once q f m = inr none
    where
      n : ℕ
      n = (st q).next

      next : Flies P st n
      next = next_flies P st state q f

      none : (t : X) (d : List ℕ) → R' t d → LinksTo view (plan view st q) t → ⊥
      none t d w l = by (old_or_new t d w)
        where
          page : view.page t ≡ n
          page = l.0 ∙ plan_next view st q

          version : view.version t ≡ (st n).used
          version = l.1 ∙ plan_next_version view st q

          by : R t d ⊎ ((t ≡ plan view st p) × (d ≡ bytes)) → ⊥
          by (inl u) = unwritten_absent n next.below next.flies m.0 t d u (page, version)
          by (inr e) = m.1 (sym page ∙ ap view.page e.0 ∙ plan_page view st p)

  -- with a page missing ahead, the record planned for q is open
  plan_open : (d q : ℕ) → Flies P st q → Missing st p (along st (st q).next d) → Open view R' (comm_of st) (plan view st q)
  unfolding OpenWithin
  plan_open zero q f m = (0, plan_at_once q f (subst (Missing st p) (along_zero st (st q).next) m))
  plan_open (suc d) q f m =
      let rest = plan_open d (st q).next (next_flies P st state q f) (subst (Missing st p) (along_front st (st q).next d) m) in
      on_eq (st q).next p
      (λ e. onward bytes (subst (λ (x : ℕ). R' (plan view st x) bytes) (sym e) added) rest)
      (λ e. on_test (is_written (st (st q).next))
      (λ w. let s = written_stored (st q).next next.below next.flies w in onward s.0 (grows (plan view st (st q).next) s.0 s.1) rest)
      (λ w. (0, plan_at_once q f (w, e))))
    where
      next : Flies P st (st q).next
      next = next_flies P st state q f

      onward : (b : List ℕ) → R' (plan view st (st q).next) b → Open view R' (comm_of st) (plan view st (st q).next) → Open view R' (comm_of st) (plan view st q)
      onward b w o = (suc o.0, inr (plan view st (st q).next, b, w, plan_links view st q, o.1))

  -- some page of p's cycle is missing
  module _ (gap : (d : ℕ) × Missing st p (along st (st p).next d)) where
    added_open : Open view R' (comm_of st) (plan view st p)
    added_open = plan_open gap.0 p flies gap.1

    -- an old record is still open: where its link led to none it may lead to the added record, which is open
    at_once_more : (x : X) → OpenAtOnce view R (comm_of st) x → Open view R' (comm_of st) x
    unfolding OpenWithin
    at_once_more x (inl l) = (0, inl l)
    at_once_more x (inr none) =
        elim (decide_links view x (plan view st p)) [
          | yes l ↦ (suc added_open.0, inr (plan view st p, bytes, added, l, added_open.1))
          | no n ↦ (0, inr (none_more view writes core live x none n))
        ]

    open_more : (k : ℕ) (x : X) → OpenWithin view R (comm_of st) k x → Open view R' (comm_of st) x
    unfolding OpenWithin
    open_more zero x o = at_once_more x o
    open_more (suc k) x (inl o) = at_once_more x o
    open_more (suc k) x (inr o) =
        let h = open_more k o.0 o.4 in (suc h.0, inr (o.0, o.1, grows o.0 o.1 o.2, o.3, h.1))

    pub shared_core_more : SharedCore view R' (comm_of st) P kept
    shared_core_more =
        record {
          all_sound = all_sound_more view writes core live;
          one_record = one_record_more view writes core live;
          committed_kept = λ q h. let c = committed_kept q h in (c.0, grows c.0 (kept q) c.1, c.2);
          committed_link = λ x b w e. committed_link x b (committed_old view writes core live x b w e) e;
          links_apart = λ x y b d w u e f. links_apart x y b d (committed_old view writes core live x b w e) (committed_old view writes core live y d u f) e f;
          exposed_open =
              old_and_new view writes core live (λ x b. Exposed view (comm_of st) x → Open view R' (comm_of st) x)
              (λ x b w l. let o = exposed_open x b w l in open_more o.0 x o.1)
              (λ l. added_open);
        }

-- ---- the state with page p marked written

pub record Marks (P : ℕ) (st st' : ℕ → PageState) (p : ℕ) (bytes : List ℕ) (Entered Entered' : ℕ → List ℕ → Type 0) : Type 0 where
  pub same_committed : (q : ℕ) → q < P → (st' q).committed ≡ (st q).committed
  pub same_used : (q : ℕ) → q < P → (st' q).used ≡ (st q).used
  pub same_next : (q : ℕ) → q < P → (st' q).next ≡ (st q).next
  pub written_here : is_written (st' p) ≡ true
  pub written_there : (q : ℕ) → q < P → ¬ (q ≡ p) → is_written (st' q) ≡ is_written (st q)
  pub entered_here : Entered' p bytes
  pub entered_there : (q : ℕ) (b : List ℕ) → q < P → ¬ (q ≡ p) → Entered q b → Entered' q b

module _ {X : Type 0} (view : View X) {P : ℕ} {R R' : X → List ℕ → Type 0} {st st' : ℕ → PageState} {p : ℕ} {bytes : List ℕ} {kept : ℕ → List ℕ} {Entered Entered' : ℕ → List ℕ → Type 0}
    (writes : Writes view P R R' st p bytes) (marks : Marks P st st' p bytes Entered Entered') (core : SharedCore view R (comm_of st) P kept) (live : SharedLive view P R st Entered) where
  open writes use {state, flies, unwritten, adds}
  open adds use {grows, added, old_or_new}
  open marks use {same_committed, same_used, same_next, written_here, written_there, entered_here, entered_there}
  open live use {written_stored, unwritten_absent, link_planned}

  flight_same : (q : ℕ) → q < P → in_flight (st' q) ≡ in_flight (st q)
  unfolding in_flight
  flight_same q h = ap (λ (n : ℕ). not (eqb n no_number)) (same_next q h)

  flies_before : (q : ℕ) → q < P → in_flight (st' q) ≡ true → Flies P st q
  flies_before q h f = record { below = h; flies = sym (flight_same q h) ∙ f }

  plan_same : (q : ℕ) → Flies P st q → plan view st q ≡ plan view st' q
  plan_same q f =
      let u = same_used q f.below in
      let c = same_committed q f.below in
      let n = same_next q f.below in
      let v : (st' (st' q).next).used ≡ (st (st q).next).used = ap (λ (x : ℕ). (st' x).used) n ∙ same_used (st q).next (next_flies P st state q f).below in
      cc

  stored : (q : ℕ) → q < P → in_flight (st' q) ≡ true → is_written (st' q) ≡ true → (b : List ℕ) × R' (plan view st' q) b × Entered' q b
  stored q h f w =
      let e = plan_same q (flies_before q h f) in
      on_eq q p
      (λ here. (bytes, subst (λ (x : X). R' x bytes) e (subst (λ (x : ℕ). R' (plan view st x) bytes) (sym here) added), subst (λ (x : ℕ). Entered' x bytes) (sym here) entered_here))
      (λ there. let s = written_stored q h (flies_before q h f).flies (sym (written_there q h there) ∙ w) in
      (s.0, subst (λ (x : X). R' x s.0) e (grows (plan view st q) s.0 s.1), entered_there q s.0 h there s.2))

  -- a page that is not marked is another one
  unmarked : (q : ℕ) → is_written (st' q) ≡ false → ¬ (q ≡ p)
  unmarked q w e = never (ap (λ (x : ℕ). is_written (st' x)) e ∙ written_here) w

  absent :
      (q : ℕ)
      → q < P
      → in_flight (st' q) ≡ true
      → is_written (st' q) ≡ false
      → (x : X) (b : List ℕ)
      → R' x b
      → IsAt view x q (st' q).used
      → ⊥
  absent q h f w x b v e = by (old_or_new x b v)
    where
      there : ¬ (q ≡ p)
      there = unmarked q w

      by : R x b ⊎ ((x ≡ plan view st p) × (b ≡ bytes)) → ⊥
      by (inl u) = unwritten_absent q h (flies_before q h f).flies (sym (written_there q h there) ∙ w) x b u (e.0, e.1 ∙ same_used q h)
      by (inr n) = there (sym e.0 ∙ ap view.page n.0 ∙ plan_page view st p)

  -- what a link to a used version says, in either state
  abbrev Predecessor : (ℕ → PageState) → ℕ → X → Type 0
  Predecessor s q x = (in_flight (s (view.page x)) ≡ true) × ((s (view.page x)).next ≡ q)

  predecessor_same : (q : ℕ) (x : X) (b : List ℕ) → R' x b → Predecessor st q x → Predecessor st' q x
  predecessor_same q x b v w =
      let h = view.sound_page P x (all_sound_more view writes core live x b v) in
      (flight_same (view.page x) h ∙ w.0, same_next (view.page x) h ∙ w.1)

  pub live_more : SharedLive view P R' st' Entered'
  live_more =
      record {
        within_used = record {
          version_used = λ x b w. let l = (within_used_more view writes core live).version_used x b w in
              let e = same_used (view.page x) (view.sound_page P x (all_sound_more view writes core live x b w)) in omega arith;
          link_used = λ x b w. let l = (within_used_more view writes core live).link_used x b w in
              let e = same_used (view.next_page x) (view.sound_next P x (all_sound_more view writes core live x b w)) in omega arith;
        };
        written_stored = stored;
        unwritten_absent = absent;
        link_planned = λ q h f x b v n u.
            predecessor_same q x b v
            (old_and_new view writes core live (λ x b. view.next_page x ≡ q → view.next_version x ≡ (st q).used → Predecessor st q x)
            (λ x b w. link_planned q h (flies_before q h f).flies x b w)
            (λ n u. (
              ap (λ (y : ℕ). in_flight (st y)) (plan_page view st p) ∙ flies.flies,
              ap (λ (y : ℕ). (st y).next) (plan_page view st p) ∙ sym (plan_next view st p) ∙ n,
            ))
            x b v n (u ∙ same_used q h));
      }

-- ---- five-word records

module _ {P : ℕ} {R R' : Record → List ℕ → Type 0} {st : ℕ → PageState} {p : ℕ} {bytes : List ℕ} {kept : ℕ → List ℕ} {Entered : ℕ → List ℕ → Type 0}
    (writes : Writes record_view P R R' st p bytes) (core : Core R (comm_of st) P kept) (live : SharedLive record_view P R st Entered)
    (gap : (d : ℕ) × Missing st p (along st (st p).next d)) where
  open writes use {state, flies, adds}
  open adds use {grows, old_or_new}
  open core use {shared, own}
  open shared use {committed_link}
  open own use {exposed_back, committed_clear, exposed_link}

  pub core_more : Core R' (comm_of st) P kept
  core_more =
      record {
        shared = shared_core_more record_view writes shared live gap;
        own = record {
          exposed_back =
              old_and_new record_view writes shared live (λ x b. Exposed record_view (comm_of st) x → x.c ≡ (st x.p).committed)
              exposed_back
              (λ l. plan_back st p ∙ ap (λ (y : ℕ). (st y).committed) (sym (plan_page record_view st p)));
          committed_clear = λ x K b d w u e s. let old = committed_old record_view writes shared live x b w e in
              old_and_new record_view writes shared live (λ K d. Straddles K x → ⊥)
              (λ K d u. committed_clear x K b d old u e)
              (plan_clear writes shared live x b old e)
              K d u s;
          exposed_link =
              old_and_new record_view writes shared live
              (λ x b. Exposed record_view (comm_of st) x
              → AheadOrStraddled R' (comm_of st) x)
              (λ x b w l. over x (exposed_link x b w l))
              (λ l. inl (plan_ahead record_view writes shared live));
        };
      }
    where
      over :
          (x : Record)
          → AheadOrStraddled R (comm_of st) x
          → AheadOrStraddled R' (comm_of st) x
      over x (inl a) = inl a
      over x (inr k) = inr (k.0, k.1, grows k.0 k.1 k.2, k.3, k.4)

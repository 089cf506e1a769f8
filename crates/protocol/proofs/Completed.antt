-- One planned record more, the last of its cycle: the cycle's pages are committed at their used versions, and the invariant holds with these.
use Prim.Native.Nat.{ℕ, zero, suc, ◌≤◌, ◌<◌}
use Rattle.std.proofs.Common.{arith, sym, ap, ◌∙◌, subst}
use Rattle.std.specs.Prelude.{◌≡◌, refl, List, ◌⊎◌, Bool, true, false}
use Rattle.std.proofs.Math.Logic.{inl, inr}
use Rattle.bounded.specs.Choice.{on_eq, on_test, never}
use Rattle.state.specs.declared.PageState.{PageState}
use Rattle.state.specs.State.{in_flight, is_written}
use Rattle.state.specs.CycleLaws.{Flies, next_flies}
use Rattle.protocol.specs.View.{View, decide_links, IsAt, IsCommitted, Exposed}
use Rattle.protocol.specs.Shared.{SharedCore, SharedLive, OpenAtOnce, OpenWithin, plan, comm_of}
use Rattle.protocol.proofs.Stored.{Writes, plan_page, plan_version, plan_next, plan_next_version, none_more, all_sound_more, one_record_more, within_used_more}

-- Page p's cycle, as a test, all of whose pages but p are written; and the state, the kept contents and the entered ones after its completion.
pub record Completes (P : ℕ) (st st' : ℕ → PageState) (p : ℕ) (bytes : List ℕ) (cycle : ℕ → Bool) (kept kept' : ℕ → List ℕ) (Entered Entered' : ℕ → List ℕ → Type 0) : Type 0 where
  pub cycle_start : cycle p ≡ true
  pub cycle_flies : (q : ℕ) → cycle q ≡ true → Flies P st q
  pub cycle_next : (q : ℕ) → cycle q ≡ true → cycle (st q).next ≡ true
  pub cycle_before : (q : ℕ) → Flies P st q → cycle (st q).next ≡ true → cycle q ≡ true
  pub cycle_written_lem : (q : ℕ) → cycle q ≡ true → ¬ (q ≡ p) → is_written (st q) ≡ true
  pub committed_on : (q : ℕ) → cycle q ≡ true → (st' q).committed ≡ (st q).used
  pub used_on : (q : ℕ) → cycle q ≡ true → (st' q).used ≡ (st q).used
  pub rests_on : (q : ℕ) → cycle q ≡ true → in_flight (st' q) ≡ false
  pub same_off : (q : ℕ) → q < P → cycle q ≡ false → st' q ≡ st q
  pub kept_here : kept' p ≡ bytes
  pub kept_on : (q : ℕ) (b : List ℕ) → cycle q ≡ true → ¬ (q ≡ p) → Entered q b → kept' q ≡ b
  pub kept_off : (q : ℕ) → q < P → cycle q ≡ false → kept' q ≡ kept q
  pub entered_off : (q : ℕ) (b : List ℕ) → q < P → cycle q ≡ false → Entered q b → Entered' q b

module _ {X : Type 0} (view : View X) {P : ℕ} {R R' : X → List ℕ → Type 0} {st st' : ℕ → PageState} {p : ℕ} {bytes : List ℕ} {cycle : ℕ → Bool} {kept kept' : ℕ → List ℕ} {Entered Entered' : ℕ → List ℕ → Type 0}
    (writes : Writes view P R R' st p bytes) (completes : Completes P st st' p bytes cycle kept kept' Entered Entered')
    (core : SharedCore view R (comm_of st) P kept) (live : SharedLive view P R st Entered) where
  open writes use {state, flies, unwritten, adds}
  open adds use {grows, added, old_or_new}
  open completes use {cycle_start, cycle_flies, cycle_next, cycle_before, cycle_written_lem, committed_on, used_on, rests_on, same_off, kept_here, kept_on, kept_off, entered_off}
  open core use {all_sound, committed_kept, committed_link, links_apart, exposed_open}
  open live use {within_used, written_stored, unwritten_absent, link_planned}

  -- ---- versions

  pub comm_off : (q : ℕ) → q < P → cycle q ≡ false → (st' q).committed ≡ (st q).committed
  comm_off q h c = ap (λ (s : PageState). s.committed) (same_off q h c)

  used_same : (q : ℕ) → q < P → (st' q).used ≡ (st q).used
  used_same q h = on_test (cycle q) (used_on q) (λ c. ap (λ (s : PageState). s.used) (same_off q h c))

  -- on the cycle the used version is above the committed one
  ahead_on : (q : ℕ) → cycle q ≡ true → (st q).committed < (st q).used
  ahead_on q c = let f = cycle_flies q c in (state.page q f.below).flies_below_used f.flies

  pub comm_rises : (q : ℕ) → q < P → (st q).committed ≤ (st' q).committed
  comm_rises q h =
      on_test (cycle q)
      (λ c. let a = ahead_on q c in let e = committed_on q c in omega arith)
      (λ c. let e = comm_off q h c in omega arith)

  -- ---- records on the cycle and off it

  pub page_below : (x : X) (b : List ℕ) → R' x b → view.page x < P
  page_below x b w = view.sound_page P x (all_sound_more view writes core live x b w)

  -- a record of a page off the cycle is an old one
  old_off : (x : X) (b : List ℕ) → R' x b → cycle (view.page x) ≡ false → R x b
  old_off x b w c = by (old_or_new x b w)
    where
      by : R x b ⊎ ((x ≡ plan view st p) × (b ≡ bytes)) → R x b
      by (inl u) = u
      by (inr n) = absurd (never (ap cycle (ap view.page n.0 ∙ plan_page view st p) ∙ cycle_start) c)

  -- every planned record of the cycle is stored, with the contents that become the kept ones
  pub stored_on : (q : ℕ) → cycle q ≡ true → R' (plan view st q) (kept' q)
  stored_on q c =
      on_eq q p
      (λ e. subst (λ (x : ℕ). R' (plan view st x) (kept' x)) (sym e) (subst (R' (plan view st p)) (sym kept_here) added))
      (λ e. let f = cycle_flies q c in
      let s = written_stored q f.below f.flies (cycle_written_lem q c e) in
      subst (R' (plan view st q)) (sym (kept_on q s.0 c e s.2)) (grows (plan view st q) s.0 s.1))

  -- an exposed record is an old one, of a page off the cycle, and was exposed
  pub record StillExposed (x : X) (b : List ℕ) : Type 0 where
    pub off : cycle (view.page x) ≡ false
    pub old : R x b
    pub before : Exposed view (comm_of st) x

  pub still_exposed : (x : X) (b : List ℕ) → R' x b → Exposed view (comm_of st') x → StillExposed x b
  still_exposed x b w l =
      on_test (cycle (view.page x))
      (λ c. absurd (let u = (within_used_more view writes core live).version_used x b w in let e = committed_on (view.page x) c in omega arith))
      (λ c. let e = comm_off (view.page x) (page_below x b w) c in
      record { off = c; old = old_off x b w c; before = omega arith })

  -- an exposed record does not link to a used version on the cycle: only its predecessor there does
  pub not_into : (x : X) (b : List ℕ) → StillExposed x b → cycle (view.next_page x) ≡ true → view.next_version x ≡ (st (view.next_page x)).used → ⊥
  not_into x b s c e =
      let f = cycle_flies (view.next_page x) c in
      let m = link_planned (view.next_page x) f.below f.flies x b s.old refl e in
      never (cycle_before (view.page x) (record { below = view.sound_page P x (all_sound x b s.old); flies = m.0 }) (ap cycle m.1 ∙ c)) s.off

  -- a committed record is the planned one of a page on the cycle, or was committed and is of a page off it
  pub data CommittedBy (x : X) (b : List ℕ) : Type 0 where
    now : cycle (view.page x) ≡ true → x ≡ plan view st (view.page x) → CommittedBy x b
    before : cycle (view.page x) ≡ false → R x b → IsCommitted view (comm_of st) x → CommittedBy x b

  pub committed_by_lem : (x : X) (b : List ℕ) → R' x b → IsCommitted view (comm_of st') x → CommittedBy x b
  committed_by_lem x b w e =
      on_test (cycle (view.page x))
      (λ c. let q = view.page x in
      now c (one_record_more view writes core live x (plan view st q) b (kept' q) w (stored_on q c) (sym (plan_page view st q)) (e ∙ committed_on q c ∙ sym (plan_version view st q))).0)
      (λ c. before c (old_off x b w c) (e ∙ comm_off (view.page x) (page_below x b w) c))

  pub next_of : (x : X) → x ≡ plan view st (view.page x) → view.next_page x ≡ (st (view.page x)).next
  next_of x e = ap view.next_page e ∙ plan_next view st (view.page x)

  pub next_version_of : (x : X) → x ≡ plan view st (view.page x) → view.next_version x ≡ (st (st (view.page x)).next).used
  next_version_of x e = ap view.next_version e ∙ plan_next_version view st (view.page x)

  -- ---- clauses

  kept_more : (q : ℕ) → q < P → (r : X) × R' r (kept' q) × IsAt view r q (st' q).committed
  kept_more q h =
      on_test (cycle q)
      (λ c. (plan view st q, stored_on q c, (plan_page view st q, plan_version view st q ∙ sym (committed_on q c))))
      (λ c. let k = committed_kept q h in
      (k.0, subst (R' k.0) (sym (kept_off q h c)) (grows k.0 (kept q) k.1), (k.2.0, k.2.1 ∙ sym (comm_off q h c))))

  link_more : (x : X) (b : List ℕ) → R' x b → IsCommitted view (comm_of st') x → view.next_version x ≤ (st' (view.next_page x)).committed
  link_more x b w e = by (committed_by_lem x b w e)
    where
      by : CommittedBy x b → view.next_version x ≤ (st' (view.next_page x)).committed
      by (now c s) =
          let n = next_of x s in
          let v = next_version_of x s in
          let a = ap (λ (y : ℕ). (st' y).committed) n in
          let k = committed_on (st (view.page x)).next (cycle_next (view.page x) c) in
          omega arith
      by (before c u f) =
          let l = committed_link x b u f in
          let r = comm_rises (view.next_page x) (view.sound_next P x (all_sound x b u)) in
          omega arith

  -- a record planned on the cycle and one committed before have different links
  links_differ : (x y : X) (d : List ℕ) → cycle (view.page x) ≡ true → x ≡ plan view st (view.page x) → R y d → IsCommitted view (comm_of st) y → view.next_page x ≡ view.next_page y → view.next_version x ≡ view.next_version y → ⊥
  links_differ x y d c s u f n v =
      let l = committed_link y d u f in
      let a = ap (λ (z : ℕ). (st z).committed) (sym n ∙ next_of x s) in
      let e = next_version_of x s in
      let k = ahead_on (st (view.page x)).next (cycle_next (view.page x) c) in
      omega arith

  apart_more :
      (x y : X) (b d : List ℕ)
      → R' x b
      → R' y d
      → IsCommitted view (comm_of st') x
      → IsCommitted view (comm_of st') y
      → view.next_page x ≡ view.next_page y
      → view.next_version x ≡ view.next_version y
      → view.page x ≡ view.page y
  apart_more x y b d w u e f n v = by (committed_by_lem x b w e) (committed_by_lem y d u f)
    where
      by : CommittedBy x b → CommittedBy y d → view.page x ≡ view.page y
      by (now c s) (now k t) =
          let i = cycle_flies (view.page x) c in
          let j = cycle_flies (view.page y) k in
          state.apart (view.page x) (view.page y) i.below j.below i.flies j.flies (sym (next_of x s) ∙ n ∙ next_of y t)
      by (now c s) (before k t g) = absurd (links_differ x y d c s t g n v)
      by (before c s g) (now k t) = absurd (links_differ y x b k t s g (sym n) (sym v))
      by (before c s g) (before k t h) = links_apart x y b d s t g h n v

  at_once_more : (x : X) (b : List ℕ) → R x b → OpenAtOnce view R (comm_of st) x → OpenAtOnce view R' (comm_of st') x
  at_once_more x b w (inl l) = inl (let r = comm_rises (view.next_page x) (view.sound_next P x (all_sound x b w)) in omega arith)
  at_once_more x b w (inr none) =
      elim (decide_links view x (plan view st p)) [
        | yes l ↦ inl (committed_now (sym (plan_page view st p) ∙ l.0) (sym (plan_version view st p) ∙ l.1))
        | no n ↦ inr (none_more view writes core live x none n)
      ]
    where
      committed_now : p ≡ view.next_page x → (st p).used ≡ view.next_version x → view.next_version x ≤ (st' (view.next_page x)).committed
      committed_now e v =
          let a = ap (λ (y : ℕ). (st' y).committed) e in
          let k = committed_on p cycle_start in
          omega arith

  open_more : (k : ℕ) (x : X) (b : List ℕ) → R x b → OpenWithin view R (comm_of st) k x → OpenWithin view R' (comm_of st') k x
  unfolding OpenWithin
  open_more zero x b w o = at_once_more x b w o
  open_more (suc k) x b w (inl o) = inl (at_once_more x b w o)
  open_more (suc k) x b w (inr o) = inr (o.0, o.1, grows o.0 o.1 o.2, o.3, open_more k o.0 o.1 o.2 o.4)

  pub shared_core_completed : SharedCore view R' (comm_of st') P kept'
  shared_core_completed =
      record {
        all_sound = all_sound_more view writes core live;
        one_record = one_record_more view writes core live;
        committed_kept = kept_more;
        committed_link = link_more;
        links_apart = apart_more;
        exposed_open = λ x b w l. let s = still_exposed x b w l in
            let o = exposed_open x b s.old s.before in (o.0, open_more o.0 x b s.old o.1);
      }

  -- ---- the pages still in flight

  -- a page in flight is off the cycle, and was in flight
  flight_off : (q : ℕ) → in_flight (st' q) ≡ true → cycle q ≡ false
  flight_off q f = on_test (cycle q) (λ c. absurd (never f (rests_on q c))) (λ c. c)

  flies_before : (q : ℕ) → q < P → in_flight (st' q) ≡ true → Flies P st q
  flies_before q h f = record { below = h; flies = ap in_flight (sym (same_off q h (flight_off q f))) ∙ f }

  written_same : (q : ℕ) → q < P → in_flight (st' q) ≡ true → is_written (st q) ≡ is_written (st' q)
  written_same q h f = ap is_written (sym (same_off q h (flight_off q f)))

  plan_same : (q : ℕ) → q < P → in_flight (st' q) ≡ true → plan view st q ≡ plan view st' q
  plan_same q h f =
      let e = same_off q h (flight_off q f) in
      let u : (st' q).used ≡ (st q).used = ap (λ (s : PageState). s.used) e in
      let c : (st' q).committed ≡ (st q).committed = ap (λ (s : PageState). s.committed) e in
      let n : (st' q).next ≡ (st q).next = ap (λ (s : PageState). s.next) e in
      let v : (st' (st' q).next).used ≡ (st (st q).next).used = ap (λ (x : ℕ). (st' x).used) n ∙ used_same (st q).next (next_flies P st state q (flies_before q h f)).below in
      cc

  stored : (q : ℕ) → q < P → in_flight (st' q) ≡ true → is_written (st' q) ≡ true → (b : List ℕ) × R' (plan view st' q) b × Entered' q b
  stored q h f w =
      let s = written_stored q h (flies_before q h f).flies (written_same q h f ∙ w) in
      (s.0, subst (λ (x : X). R' x s.0) (plan_same q h f) (grows (plan view st q) s.0 s.1), entered_off q s.0 h (flight_off q f) s.2)

  absent : (q : ℕ) → q < P → in_flight (st' q) ≡ true → is_written (st' q) ≡ false → (x : X) (b : List ℕ) → R' x b → IsAt view x q (st' q).used → ⊥
  absent q h f w x b v e =
      unwritten_absent q h (flies_before q h f).flies (written_same q h f ∙ w) x b
      (old_off x b v (ap cycle e.0 ∙ flight_off q f))
      (e.0, e.1 ∙ used_same q h)

  planned :
      (q : ℕ)
      → q < P
      → in_flight (st' q) ≡ true
      → (x : X) (b : List ℕ)
      → R' x b
      → view.next_page x ≡ q
      → view.next_version x ≡ (st' q).used
      → (in_flight (st' (view.page x)) ≡ true) × ((st' (view.page x)).next ≡ q)
  planned q h f x b w n v = by (old_or_new x b w)
    where
      off : cycle q ≡ false
      off = flight_off q f

      by :
          R x b ⊎ ((x ≡ plan view st p) × (b ≡ bytes))
          → (in_flight (st' (view.page x)) ≡ true) × ((st' (view.page x)).next ≡ q)
      by (inl u) =
          let l = link_planned q h (flies_before q h f).flies x b u n (v ∙ used_same q h) in
          let here : cycle (view.page x) ≡ false =
          on_test (cycle (view.page x)) (λ c. absurd (never (ap cycle (sym l.1) ∙ cycle_next (view.page x) c) off)) (λ c. c) in
          let e = same_off (view.page x) (page_below x b w) here in
          (ap in_flight e ∙ l.0, ap (λ (s : PageState). s.next) e ∙ l.1)
      by (inr e) =
          absurd (never (ap cycle (sym n ∙ ap view.next_page e.0 ∙ plan_next view st p) ∙ cycle_next p cycle_start) off)

  pub live_completed : SharedLive view P R' st' Entered'
  live_completed =
      record {
        within_used = record {
          version_used = λ x b w. let l = (within_used_more view writes core live).version_used x b w in
              let e = used_same (view.page x) (page_below x b w) in omega arith;
          link_used = λ x b w. let l = (within_used_more view writes core live).link_used x b w in
              let e = used_same (view.next_page x) (view.sound_next P x (all_sound_more view writes core live x b w)) in omega arith;
        };
        written_stored = stored;
        unwritten_absent = absent;
        link_planned = planned;
      }

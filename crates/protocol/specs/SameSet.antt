-- What leaves the records as they are keeps the invariant: another flash with the same pairs, other words for the same versions,
-- and the changes of the state in a launch, a withdrawal and a recovery.
use Prim.Native.Nat.{ℕ, zero, suc, ◌≤◌, ◌<◌}
use Rattle.std.proofs.Common.{arith, sym, ap, ◌∙◌, subst}
use Rattle.std.specs.Prelude.{◌≡◌, List, ◌⊎◌, true, false}
use Rattle.std.proofs.Math.Logic.{inl, inr}
use Rattle.bounded.specs.Choice.{never}
use Rattle.record.specs.declared.Record.{Record}
use Rattle.state.specs.declared.PageState.{PageState}
use Rattle.state.specs.State.{in_flight, is_written}
use Rattle.protocol.specs.View.{View, record_view, IsAt}
use Rattle.protocol.specs.Shared.{SharedCore, SharedLive, OpenAtOnce, OpenWithin, plan}
use Rattle.protocol.specs.BackPointer.{AheadOrStraddled, Core}

-- The same pairs, and the same committed versions and kept contents of each page.
pub record SameRecords {X : Type 0} (P : ℕ) (R R' : X → List ℕ → Type 0) (comm comm' : ℕ → ℕ) (kept kept' : ℕ → List ℕ) : Type 0 where
  pub forth : (r : X) (b : List ℕ) → R r b → R' r b
  pub back : (r : X) (b : List ℕ) → R' r b → R r b
  pub same_comm : (p : ℕ) → p < P → comm p ≡ comm' p
  pub same_kept : (p : ℕ) → p < P → kept p ≡ kept' p

module _ {X : Type 0} (view : View X) {P : ℕ} {R R' : X → List ℕ → Type 0} {comm comm' : ℕ → ℕ} {kept kept' : ℕ → List ℕ}
    (same : SameRecords P R R' comm comm' kept kept') (core : SharedCore view R comm P kept) where
  open same use {forth, back, same_comm, same_kept}
  open core use {all_sound, one_record, committed_kept, committed_link, links_apart, exposed_open}

  pub comm_page : (r : X) (b : List ℕ) → R' r b → comm (view.page r) ≡ comm' (view.page r)
  comm_page r b w = same_comm (view.page r) (view.sound_page P r (all_sound r b (back r b w)))

  pub comm_next : (r : X) (b : List ℕ) → R' r b → comm (view.next_page r) ≡ comm' (view.next_page r)
  comm_next r b w = same_comm (view.next_page r) (view.sound_next P r (all_sound r b (back r b w)))

  at_once_same : (r : X) (b : List ℕ) → R r b → OpenAtOnce view R comm r → OpenAtOnce view R' comm' r
  at_once_same r b w (inl l) = inl (let e = comm_next r b (forth r b w) in omega arith)
  at_once_same r b w (inr none) = inr (λ t d v. none t d (back t d v))

  open_same : (k : ℕ) (r : X) (b : List ℕ) → R r b → OpenWithin view R comm k r → OpenWithin view R' comm' k r
  unfolding OpenWithin
  open_same zero r b w o = at_once_same r b w o
  open_same (suc k) r b w (inl o) = inl (at_once_same r b w o)
  open_same (suc k) r b w (inr o) = inr (o.0, o.1, forth o.0 o.1 o.2, o.3, open_same k o.0 o.1 o.2 o.4)

  pub shared_core_same : SharedCore view R' comm' P kept'
  shared_core_same =
      record {
        all_sound = λ r b w. all_sound r b (back r b w);
        one_record = λ r s b d w u. one_record r s b d (back r b w) (back s d u);
        committed_kept = λ p h. let c = committed_kept p h in
            (c.0, subst (λ (x : List ℕ). R' c.0 x) (same_kept p h) (forth c.0 (kept p) c.1), (c.2.0, c.2.1 ∙ same_comm p h));
        committed_link = λ r b w e. let l = committed_link r b (back r b w) (e ∙ sym (comm_page r b w)) in let n = comm_next r b w in omega arith;
        links_apart = λ r s b d w u e f. links_apart r s b d (back r b w) (back s d u) (e ∙ sym (comm_page r b w)) (f ∙ sym (comm_page s d u));
        exposed_open = λ r b w l. let e = comm_page r b w in let o = exposed_open r b (back r b w) (omega arith) in (o.0, open_same o.0 r b (back r b w) o.1);
      }

module _ {P : ℕ} {R R' : Record → List ℕ → Type 0} {comm comm' : ℕ → ℕ} {kept kept' : ℕ → List ℕ}
    (same : SameRecords P R R' comm comm' kept kept') (core : Core R comm P kept) where
  open same use {forth, back, same_comm}
  open core use {shared, own}
  open own use {exposed_back, committed_clear, exposed_link}

  at_page : (r : Record) (b : List ℕ) → R' r b → comm r.p ≡ comm' r.p
  at_page = comm_page record_view same shared

  at_next : (r : Record) (b : List ℕ) → R' r b → comm r.np ≡ comm' r.np
  at_next = comm_next record_view same shared

  pub core_same : Core R' comm' P kept'
  core_same =
      record {
        shared = shared_core_same record_view same shared;
        own = record {
          exposed_back = λ r b w l. let e = at_page r b w in exposed_back r b (back r b w) (omega arith) ∙ e;
          committed_clear = λ r K b d w u e s. committed_clear r K b d (back r b w) (back K d u) (e ∙ sym (at_page r b w)) s;
          exposed_link = λ r b w l. let e = at_page r b w in over r b w (exposed_link r b (back r b w) (omega arith));
        };
      }
    where
      over :
          (r : Record) (b : List ℕ)
          → R' r b
          → AheadOrStraddled R comm r
          → AheadOrStraddled R' comm' r
      over r b w (inl l) = inl (let e = at_next r b w in omega arith)
      over r b w (inr k) = inr (k.0, k.1, forth k.0 k.1 k.2, (let e = at_next r b w in let l = k.3 in omega arith), k.4)

-- ---- the state changes and the records do not

module _ (P : ℕ) (st st' : ℕ → PageState) (Entered Entered' : ℕ → List ℕ → Type 0) where
  -- page p was launched: at a version above every used one, and not written
  pub record Launched (p : ℕ) : Type 0 where
    pub fresh : (st p).used < (st' p).used
    pub not_written : is_written (st' p) ≡ false

  -- page p goes on in its flight, as do the pages before and after it
  pub record GoesOn (p : ℕ) : Type 0 where
    pub unchanged : st' p ≡ st p
    pub next_used : (st' (st p).next).used ≡ (st (st p).next).used
    pub before : (q : ℕ) → q < P → in_flight (st q) ≡ true → (st q).next ≡ p → st' q ≡ st q
    pub entered : (b : List ℕ) → Entered p b → Entered' p b

  -- used versions do not fall, and a page in flight was launched or goes on
  pub record StateChanges : Type 0 where
    pub used_rises : (p : ℕ) → p < P → (st p).used ≤ (st' p).used
    pub flights : (p : ℕ) → p < P → in_flight (st' p) ≡ true → Launched p ⊎ GoesOn p

module _ {X : Type 0} (view : View X) {P : ℕ} {R : X → List ℕ → Type 0} {st st' : ℕ → PageState} {Entered Entered' : ℕ → List ℕ → Type 0}
    (changes : StateChanges P st st' Entered Entered')
    (all_sound : (r : X) (b : List ℕ) → R r b → view.sound P r ≡ true)
    (live : SharedLive view P R st Entered) where
  open changes use {used_rises, flights}
  open live use {within_used, written_stored, unwritten_absent, link_planned}

  page_below : (r : X) (b : List ℕ) → R r b → view.page r < P
  page_below r b w = view.sound_page P r (all_sound r b w)

  plan_unchanged : (p : ℕ) → GoesOn P st st' Entered Entered' p → plan view st p ≡ plan view st' p
  plan_unchanged p g =
      let u = g.unchanged in
      let n : (st (st p).next).used ≡ (st' (st' p).next).used = sym g.next_used ∙ ap (λ (s : PageState). (st' s.next).used) (sym u) in
      ap (λ (s : PageState). view.planned p s.used s.committed s.next (st (st p).next).used) (sym u)
      ∙ ap (λ (x : ℕ). view.planned p (st' p).used (st' p).committed (st' p).next x) n

  stored : (p : ℕ) → p < P → in_flight (st' p) ≡ true → is_written (st' p) ≡ true → Launched P st st' Entered Entered' p ⊎ GoesOn P st st' Entered Entered' p → (b : List ℕ) × R (plan view st' p) b × Entered' p b
  stored p h f w (inl l) = absurd (never w l.not_written)
  stored p h f w (inr g) =
      let s = written_stored p h (ap in_flight (sym g.unchanged) ∙ f) (ap is_written (sym g.unchanged) ∙ w) in
      (s.0, subst (λ (x : X). R x s.0) (plan_unchanged p g) s.1, g.entered s.0 s.2)

  absent :
      (p : ℕ) → p < P → in_flight (st' p) ≡ true → is_written (st' p) ≡ false → Launched P st st' Entered Entered' p ⊎ GoesOn P st st' Entered Entered' p
      → (r : X) (b : List ℕ) → R r b → IsAt view r p (st' p).used → ⊥
  absent p h f w (inl l) r b v e =
      let u = within_used.version_used r b v in
      let a = ap (λ (x : ℕ). (st x).used) e.0 in
      let c = e.1 in
      let d = l.fresh in
      omega arith
  absent p h f w (inr g) r b v e =
      unwritten_absent p h (ap in_flight (sym g.unchanged) ∙ f) (ap is_written (sym g.unchanged) ∙ w) r b v
      (e.0, e.1 ∙ ap (λ (s : PageState). s.used) g.unchanged)

  planned :
      (p : ℕ) → p < P → in_flight (st' p) ≡ true → Launched P st st' Entered Entered' p ⊎ GoesOn P st st' Entered Entered' p
      → (r : X) (b : List ℕ) → R r b → view.next_page r ≡ p → view.next_version r ≡ (st' p).used
      → (in_flight (st' (view.page r)) ≡ true) × ((st' (view.page r)).next ≡ p)
  planned p h f (inl l) r b v e n =
      absurd (let u = within_used.link_used r b v in
      let a = ap (λ (x : ℕ). (st x).used) e in
      let d = l.fresh in
      omega arith)
  planned p h f (inr g) r b v e n =
      let w = link_planned p h (ap in_flight (sym g.unchanged) ∙ f) r b v e (n ∙ ap (λ (s : PageState). s.used) g.unchanged) in
      let u = g.before (view.page r) (page_below r b v) w.0 w.1 in
      (ap in_flight u ∙ w.0, ap (λ (s : PageState). s.next) u ∙ w.1)

  pub live_changes : SharedLive view P R st' Entered'
  live_changes =
      record {
        within_used = record {
          version_used = λ r b w. let u = within_used.version_used r b w in let l = used_rises (view.page r) (page_below r b w) in omega arith;
          link_used = λ r b w. let u = within_used.link_used r b w in let l = used_rises (view.next_page r) (view.sound_next P r (all_sound r b w)) in omega arith;
        };
        written_stored = λ p h f w. stored p h f w (flights p h f);
        unwritten_absent = λ p h f w. absent p h f w (flights p h f);
        link_planned = λ p h f. planned p h f (flights p h f);
      }

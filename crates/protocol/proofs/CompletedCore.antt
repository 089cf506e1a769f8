-- A completed cycle and five-word records: exposed records point back at the committed versions still, and the cycle's own records straddle older links into it.
use Rattle.std.specs.Prelude.{ℕ, ◌<◌, ◌≡◌, List, ◌⊎◌, Bool, true}
use Rattle.std.proofs.Common.{arith, sym, ap, ◌∙◌, subst, inl, inr}
use Rattle.bounded.specs.Choice.{on_eq, on_test}
use Rattle.record.specs.declared.Record.{Record}
use Rattle.record.specs.SlotLaws.{Straddles}
use Rattle.state.specs.declared.PageState.{PageState}
use Rattle.protocol.specs.View.{record_view, IsCommitted, Exposed}
use Rattle.protocol.specs.Shared.{SharedLive, plan, comm_of}
use Rattle.protocol.specs.BackPointer.{AheadOrStraddled, Core}
use Rattle.protocol.proofs.Stored.{Writes, plan_page, plan_version, within_used_more, plan_back, plan_clear}
use Rattle.protocol.proofs.Completed.{Completes, StillExposed, still_exposed, not_into, CommittedBy, committed_by_lem, next_of, next_version_of, comm_off, comm_rises, page_below, stored_on, shared_core_completed}
use Rattle.protocol.proofs.Completed.CommittedBy.{now, before}

module _ {P : ℕ} {R R' : Record → List ℕ → Type 0} {st st' : ℕ → PageState} {p : ℕ} {bytes : List ℕ} {cycle : ℕ → Bool} {kept kept' : ℕ → List ℕ} {Entered Entered' : ℕ → List ℕ → Type 0}
    (writes : Writes record_view P R R' st p bytes) (completes : Completes P st st' p bytes cycle kept kept' Entered Entered')
    (core : Core R (comm_of st) P kept) (live : SharedLive record_view P R st Entered) where
  open writes use {adds}
  open adds use {grows, old_or_new}
  open completes use {committed_on}
  open core use {shared, own}
  open shared use {all_sound}
  open own use {exposed_back, committed_clear, exposed_link}
  open live use {within_used}

  back_completed : (x : Record) (b : List ℕ) → R' x b → Exposed record_view (comm_of st') x → x.c ≡ (st' x.p).committed
  back_completed x b w l =
      let s = still_exposed record_view writes completes shared live x b w l in
      exposed_back x b s.old s.before ∙ sym (comm_off record_view writes completes shared live x.p (page_below record_view writes completes shared live x b w) s.off)

  clear_completed : (x K : Record) (b d : List ℕ) → R' x b → R' K d → IsCommitted record_view (comm_of st') x → Straddles K x → ⊥
  clear_completed x K b d w u e s = by (committed_by_lem record_view writes completes shared live x b w e)
    where
      by : CommittedBy record_view writes completes shared live x b → ⊥
      by (now c f) =
          let l = (within_used_more record_view writes shared live).version_used K d u in
          let v = next_version_of record_view writes completes shared live x f in
          let n = next_of record_view writes completes shared live x f in
          let a = ap (λ (y : ℕ). (st y).used) (s.at_next ∙ n) in
          let h = s.below_v in
          omega arith
      by (before c f g) = old (old_or_new K d u)
        where
          old : R K d ⊎ ((K ≡ plan record_view st p) × (d ≡ bytes)) → ⊥
          old (inl k) = committed_clear x K b d f k g s
          old (inr k) = plan_clear writes shared live x b f g (subst (λ (y : Record). Straddles y x) k.0 s)

  link_completed : (x : Record) (b : List ℕ) → R' x b → Exposed record_view (comm_of st') x → AheadOrStraddled R' (comm_of st') x
  link_completed x b w l = by (exposed_link x b s.old s.before)
    where
      s : StillExposed record_view writes completes shared live x b
      s = still_exposed record_view writes completes shared live x b w l

      below : x.np < P
      below = record_view.sound_next P x (all_sound x b s.old)

      -- the cycle's own record of the next page straddles a link to an older version
      through : cycle x.np ≡ true → (st x.np).committed < x.nv → AheadOrStraddled R' (comm_of st') x
      through c a =
          let q = x.np in
          let u = within_used.link_used x b s.old in
          let k = committed_on q c in
          let v = plan_version record_view st q in
          on_eq x.nv (st q).used
          (λ e. absurd (not_into record_view writes completes shared live x b s c e))
          (λ e. inr (
            plan record_view st q,
            kept' q,
            stored_on record_view writes completes shared live q c,
            omega arith,
            record { at_next = plan_page record_view st q; above_c = (let z = plan_back st q in omega arith); below_v = omega arith },
          ))

      by : AheadOrStraddled R (comm_of st) x → AheadOrStraddled R' (comm_of st') x
      by (inl a) = on_test (cycle x.np) (λ c. through c a) (λ c. inl (let e = comm_off record_view writes completes shared live x.np below c in omega arith))
      by (inr k) = inr (k.0, k.1, grows k.0 k.1 k.2, (let r = comm_rises record_view writes completes shared live x.np below in let z = k.3 in omega arith), k.4)

  pub core_completed : Core R' (comm_of st') P kept'
  core_completed =
      record {
        shared = shared_core_completed record_view writes completes shared live;
        own = record { exposed_back = back_completed; committed_clear = clear_completed; exposed_link = link_completed };
      }

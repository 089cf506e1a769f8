-- The paper's InvComm and InvUsed hold after every list whose state is known.
use Rattle.std.specs.Prelude.{ℕ, ◌≤◌, ◌<◌, ◌≡◌, refl, Bool, true, false, cond, eqb}
use Rattle.std.proofs.Common.{arith, sym, ap, subst, eqb-true}
use Rattle.bounded.specs.Limits.{Widths}
use Rattle.bounded.specs.Choice.{never}
use Rattle.bounded.specs.BelowLaws.{max_bound}
use Rattle.sizes.specs.declared.Sizes.{Sizes}
use Rattle.record.specs.declared.Record.{Record}
use Rattle.record.specs.Slot.{Slot}
use Rattle.std.specs.Prelude.{None, Some}
use Rattle.record.specs.Slot.{slot_in, bytes_at}
use Rattle.state.specs.declared.PageState.{PageState}
use Rattle.state.specs.State.{state_at}
use Rattle.table.specs.Table.{mentioned, used_of}
use Rattle.rules.specs.Volume.{Volume}
use Rattle.protocol.specs.View.{pointing_view}
use Rattle.protocol.specs.Shared.{plan}
use Rattle.protocol.proofs.Stored.{plan_page, plan_version, plan_next, plan_next_version}
use Rattle.atomicity.specs.Family.{Family}
use Rattle.atomicity.specs.Run.{started, after}
use Rattle.atomicity.specs.Model.{Model, fresh_model}
use Rattle.atomicity.specs.Promise.{model_after}
use Rattle.atomicity.specs.Companions.{Agrees, StatesAgree}
use Rattle.atomicity.proofs.steps.Theory.{Theory}
use Rattle.atomicity.proofs.steps.Invariant.{Live, Holding, known, unknown}
use Rattle.atomicity.proofs.theorems.Promise.{reached}

live_agrees : {F : Family} (T : Theory F) (widths : Widths) (sizes : Sizes) (v : Volume) (m : Model) → Live T sizes v.flash (state_at v.state) m → Agrees F sizes.pages sizes.slots v
unfolding used_of mentioned
live_agrees {F} T widths sizes v m l =
    record {
      same_committed = λ p h. T.committed_found_lem _ _ _ _ _ _ l.core p h;
      used_covers = λ p h. max_bound (λ k. mentioned p (slot_in F.layout v.flash.words k)) sizes.slots (state_at v.state p).used (λ k i. at p k i (slot_in F.layout v.flash.words k) refl);
      planned_covers = λ q h f p i. subst (λ (r : Record). mentioned p (Some r) ≤ (st p).used) (sym (T.plan_is st q)) (covered p (plan (pointing_view T.back) st q) (at_plan q) (next_plan q));
    }
  where
    st : ℕ → PageState
    st = state_at v.state

    here : (b : Bool) (n u : ℕ) → (b ≡ true → n ≤ u) → cond b n 0 ≤ u
    here true n u f = f refl
    here false n u f = omega arith

    -- a record whose version and link are not above their pages' used ones mentions none above
    covered : (p : ℕ) (r : Record) → r.v ≤ (st r.p).used → r.nv ≤ (st r.np).used → mentioned p (Some r) ≤ (st p).used
    covered p r w1 w2 =
        let a = here (eqb r.p p) r.v (st p).used (λ t. subst (λ (x : ℕ). r.v ≤ (st x).used) (eqb-true r.p p t) w1) in
        let b = here (eqb r.np p) r.nv (st p).used (λ t. subst (λ (x : ℕ). r.nv ≤ (st x).used) (eqb-true r.np p t) w2) in
        omega arith

    at_plan : (q : ℕ) → (plan (pointing_view T.back) st q).v ≤ (st (plan (pointing_view T.back) st q).p).used
    at_plan q = let a = ap (λ (x : ℕ). (st x).used) (plan_page (pointing_view T.back) st q) in let b = plan_version (pointing_view T.back) st q in omega arith

    next_plan : (q : ℕ) → (plan (pointing_view T.back) st q).nv ≤ (st (plan (pointing_view T.back) st q).np).used
    next_plan q = let a = ap (λ (x : ℕ). (st x).used) (plan_next (pointing_view T.back) st q) in let b = plan_next_version (pointing_view T.back) st q in omega arith

    at : (p k : ℕ) → k < sizes.slots → (s : Slot) → slot_in F.layout v.flash.words k ≡ s → mentioned p s ≤ (st p).used
    at p k i None e = omega arith
    at p k i (Some r) e =
        let u = l.live.within_used in
        covered p r (u.version_used r (bytes_at sizes.width v.flash.contents k) (k, i, e, refl)) (u.link_used r (bytes_at sizes.width v.flash.contents k) (k, i, e, refl))

pub state_agrees : {F : Family} (T : Theory F) → StatesAgree F
state_agrees {F} T widths sizes v events p found = by (reached T widths sizes v events p)
  where
    by : Holding T widths sizes (after F widths sizes (started F widths sizes v) events) (model_after F widths sizes (started F widths sizes v) (fresh_model sizes.width) events) → Agrees F sizes.pages sizes.slots (after F widths sizes (started F widths sizes v) events).volume
    by (known f fits live) = live_agrees T widths sizes (after F widths sizes (started F widths sizes v) events).volume (model_after F widths sizes (started F widths sizes v) (fresh_model sizes.width) events) live
    by (unknown lost fits l) = absurd (never lost found)

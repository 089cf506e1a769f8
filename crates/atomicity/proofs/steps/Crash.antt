-- A crash keeps what the invariant needs after it: the records, and no open ring.
use Rattle.std.specs.Prelude.{ℕ, ◌≡◌, Bool, cond, ◌&&◌, eqb}
use Rattle.std.proofs.Math.Path.{refl, subst}
use Rattle.std.proofs.Common.{sym, ap, ◌∙◌}
use mathlib.Core.List.{List, [], ◌∷◌}
use Rattle.std.proofs.Math.Bool.{true, false}
use borrow.Author.Tests.{eq-eqb, ne_eqb}
use Rattle.bounded.specs.Limits.{Widths}
use Rattle.bounded.specs.Choice.{on_eq, on_test}
use Rattle.outcome.specs.Outcome.{Outcome}
use Rattle.sizes.specs.declared.Sizes.{Sizes}
use Rattle.record.specs.Flash.{Flash, Step, apply_all_in}
use Rattle.record.specs.FlashLaws.{SizedIn}
use Rattle.state.specs.State.{state_at}
use Rattle.rules.specs.Volume.{Volume}
use Rattle.protocol.specs.Shared.{comm_of}
use Rattle.atomicity.specs.Family.{Family}
use Rattle.atomicity.specs.Call.{Call, perform, planned_stages, flash_stages}
use Rattle.atomicity.specs.Run.{done_of, done_in, steps_cut_short, was_done}
use Rattle.atomicity.specs.Model.{Told, Model, accept, close_all, enter, learns}
use Rattle.atomicity.proofs.steps.Theory.{Theory, keeping, write_done}
use Rattle.atomicity.proofs.steps.Stages.{answer_is, performs, refused_stages, accepted_stages, cut_one}
use Rattle.atomicity.proofs.steps.Invariant.{Lost, Known}
use Rattle.atomicity.proofs.steps.Sparing.{Spares}
use Rattle.atomicity.proofs.steps.Spared.{spares_kept}
use Rattle.atomicity.proofs.steps.Calls.{accepted}

module _ {F : Family} (T : Theory F) (sizes : Sizes) where
  -- what is left of a volume by a crash: its flash
  pub record Crashed (f : Flash) (m : Model) : Type 0 where
    pub sized : SizedIn F.layout sizes.width sizes.slots f
    pub lost : Lost T sizes f m

  pub crash_lost : (f : Flash) (m : Model) → Crashed f m → Crashed f (close_all m)
  unfolding close_all
  crash_lost f m c = record { sized = c.sized; lost = record { comm = c.lost.comm; apart = c.lost.apart; core = c.lost.core; closed = refl } }

module _ {F : Family} (T : Theory F) (widths : Widths) (sizes : Sizes) where
  pub crash_known : (v : Volume) (m : Model) → Known T widths sizes v m → Crashed T sizes v.flash (close_all m)
  unfolding close_all
  crash_known v m k = record { sized = k.fits.flash_sized; lost = record { comm = comm_of (state_at v.state); apart = k.live.apart; core = k.live.core; closed = refl } }

  -- the flash after the steps done of a call
  abbrev pub crash_flash : Volume → Call → (stage : ℕ) (done : ℕ → Bool) → Flash
  crash_flash v call stage done = apply_all_in F.layout sizes.width v.flash (steps_cut_short stage done (flash_stages F widths sizes v call))

  -- a call that has no stages leaves the flash as it was: one that is refused, and one that plans none
  unstaged : (v : Volume) (call : Call) (stage : ℕ) (done : ℕ → Bool) → flash_stages F widths sizes v call ≡ [] → crash_flash v call stage done ≡ v.flash
  unfolding steps_cut_short done_in apply_all_in
  unstaged v call stage done e = rw e

  refused_flash : (v : Volume) (call : Call) (stage : ℕ) (done : ℕ → Bool) → ¬ (answer_is T widths sizes v call ≡ 0) → crash_flash v call stage done ≡ v.flash
  refused_flash v call stage done n = unstaged v call stage done (refused_stages T widths sizes v call n)

  pub no_stages : (v : Volume) (call : Call) (stage : ℕ) (done : ℕ → Bool) → planned_stages F sizes v call ≡ [] → crash_flash v call stage done ≡ v.flash
  no_stages v call stage done e =
      on_eq (answer_is T widths sizes v call) 0
      (λ a. unstaged v call stage done (accepted_stages T widths sizes v call a ∙ e))
      (λ n. refused_flash v call stage done n)

  -- an accepted call with one stage: the steps of it that were done
  one_stage :
      (v : Volume) (call : Call) (stage : ℕ) (done : ℕ → Bool) (steps : List Step)
      → answer_is T widths sizes v call ≡ 0
      → planned_stages F sizes v call ≡ steps ∷ []
      → crash_flash v call stage done ≡ apply_all_in F.layout sizes.width v.flash (done_of (was_done stage done 0) 0 steps)
  one_stage v call stage done steps a e =
      ap (λ (l : List (List Step)). apply_all_in F.layout sizes.width v.flash (steps_cut_short stage done l)) (accepted_stages T widths sizes v call a ∙ e)
      ∙ ap (apply_all_in F.layout sizes.width v.flash) (cut_one stage done steps)

  -- a crash that leaves the flash as it was, with every open ring closed
  pub leaves_flash : (v : Volume) (m : Model) (f : Flash) → Known T widths sizes v m → f ≡ v.flash → Crashed T sizes f (close_all m)
  leaves_flash v m f k e = subst (λ (x : Flash). Crashed T sizes x (close_all m)) (sym e) (crash_known v m k)

  -- a crash in a call whose stages lose none but records that may be erased
  pub crash_spares :
      (v : Volume) (m : Model) (call : Call) (stage : ℕ) (done : ℕ → Bool)
      → Known T widths sizes v m
      → (answer_is T widths sizes v call ≡ 0 → Spares (keeping T) sizes.width sizes.slots (state_at v.state) v.flash (planned_stages F sizes v call))
      → Crashed T sizes (crash_flash v call stage done) (close_all m)
  unfolding close_all
  crash_spares v m call stage done k spares =
      on_eq (answer_is T widths sizes v call) 0
      (λ e. let c = spares_kept T sizes (state_at v.state) m (planned_stages F sizes v call) v.flash stage done (spares e) (record { sized = k.fits.flash_sized; live = k.live }) in
      subst (λ (l : List (List Step)). Crashed T sizes (apply_all_in F.layout sizes.width v.flash (steps_cut_short stage done l)) (close_all m)) (sym (accepted_stages T widths sizes v call e))
      (record { sized = c.sized; lost = record { comm = comm_of (state_at v.state); apart = c.live.apart; core = c.live.core; closed = refl } }))
      (λ n. leaves_flash v m (crash_flash v call stage done) k (refused_flash v call stage done n))

  -- a crashed write: its slot is stored whole, or left as it was
  pub crash_write :
      (v : Volume) (m : Model) (page slot : ℕ) (bytes : List ℕ) (stage : ℕ) (done : ℕ → Bool)
      → Known T widths sizes v m
      → Crashed T sizes (crash_flash v (Call.Write page slot bytes) stage done) (learns m (Told.CrashedWrite page bytes (eqb (perform F widths sizes v (Call.Write page slot bytes)).answer 0 && was_done stage done 0 0)))
  unfolding learns answer_is planned_stages done_of apply_all_in perform accept
  crash_write v m page slot bytes stage done k =
      on_eq (answer_is T widths sizes v call) 0
      (λ e. let t = eq-eqb (perform F widths sizes v call).answer 0 (performs T widths sizes v call ∙ e) in
      let steps = one_stage v call stage done (Step.Store slot (F.plan (state_at v.state) page) bytes ∷ []) e refl in
      on_test (was_done stage done 0 0)
      (λ d. let q : stored ≡ true = rw (t, d) in
      let is : crashed ≡ (perform F widths sizes v call).left.flash = steps ∙ rw d (sym (ap (λ (o : Outcome Volume). o.left.flash) (write_done T widths sizes v page slot bytes e))) in
      told_of q (subst (λ (x : Flash). Crashed T sizes x (close_all (enter page bytes m.kept m.rings))) (sym is)
      (crash_known (perform F widths sizes v call).left (enter page bytes m.kept m.rings) (accepted T widths sizes v m k call e))))
      (λ d. let q : stored ≡ false = rw (t, d) in
      let is : crashed ≡ v.flash = steps ∙ rw d in
      told_of q (leaves_flash v m crashed k is)))
      (λ n. let q : stored ≡ false = rw (ne_eqb (perform F widths sizes v call).answer 0 (λ e. n (sym (performs T widths sizes v call) ∙ e))) in
      told_of q (leaves_flash v m crashed k (refused_flash v call stage done n)))
    where
      call : Call
      call = Call.Write page slot bytes

      crashed : Flash
      crashed = crash_flash v call stage done

      stored : Bool
      stored = eqb (perform F widths sizes v call).answer 0 && was_done stage done 0 0

      told_of : {b : Bool} → stored ≡ b → Crashed T sizes crashed (close_all (cond b (enter page bytes m.kept m.rings) m)) → Crashed T sizes crashed (close_all (cond stored (enter page bytes m.kept m.rings) m))
      told_of q c = subst (λ (b : Bool). Crashed T sizes crashed (close_all (cond b (enter page bytes m.kept m.rings) m))) (sym q) c

-- One event keeps the invariant: a call that returns, a crash in a call, a crash between two.
use Rattle.std.specs.Prelude.{ℕ, zero, suc, ◌*◌, ◌≡◌, List, Bool, false, cond, eqb, length}
use Rattle.std.proofs.Common.{arith, sym, ◌∙◌, eqb-true}
use Rattle.std.proofs.Math.Path.{refl, ap, subst}
use Rattle.std.proofs.Math.Bool.{true}
use Rattle.bounded.specs.Limits.{Widths}
use Rattle.bounded.specs.Choice.{on_eq, never, both_left, both_right}
use Rattle.outcome.specs.Outcome.{Outcome}
use Rattle.sizes.specs.declared.Sizes.{Sizes}
use Rattle.sizes.specs.SizesLaws.{SizesFacts}
use Rattle.record.specs.Flash.{Flash}
use Rattle.record.specs.FlashLaws.{SizedIn}
use Rattle.rules.specs.Volume.{Volume}
use Rattle.rules.specs.laws.Volume.{FitsIn}
use Rattle.atomicity.specs.Family.{Family}
use Rattle.atomicity.specs.Call.{Call, with_state, perform, planned_stages}
use Rattle.atomicity.specs.Run.{Event, World, is_recover, still_lost, happens, keeps_to}
use Rattle.atomicity.specs.Model.{Told, Model, accept, close_all, learns}
use Rattle.atomicity.specs.Promise.{told_of_crash, told}
use Rattle.atomicity.proofs.steps.Theory.{Theory, recover_done}
use Rattle.atomicity.proofs.steps.Invariant.{Lost, Known, Holding, known, unknown}
use Rattle.atomicity.proofs.steps.Recover.{accepts, found_fits, found_again}
use Rattle.atomicity.proofs.steps.Calls.{accepted}
use Rattle.atomicity.proofs.steps.Stages.{answer_is, performs, refused_leaves}
use Rattle.atomicity.proofs.steps.Crash.{Crashed, crash_flash, crash_known, crash_lost, no_stages}
use Rattle.atomicity.proofs.steps.AnyCrash.{crash_in}

-- ---- what the model learns

pub learns_accepted : (m : Model) (call : Call) (a : ℕ) → a ≡ 0 → learns m (Told.Answered call a) ≡ accept m call
unfolding learns
learns_accepted m call zero e = refl
learns_accepted m call (suc a) e = absurd (omega arith)

pub learns_refused : (m : Model) (call : Call) (a : ℕ) → ¬ (a ≡ 0) → learns m (Told.Answered call a) ≡ m
unfolding learns
learns_refused m call zero n = absurd (n refl)
learns_refused m call (suc a) n = refl

module _ {F : Family} (T : Theory F) (widths : Widths) (sizes : Sizes) where
  -- ---- a call that returns, the state known

  call_known : (v : Volume) (m : Model) (call : Call) → Known T widths sizes v m → Known T widths sizes (perform F widths sizes v call).left (learns m (Told.Answered call (perform F widths sizes v call).answer))
  call_known v m call k =
      on_eq (answer_is T widths sizes v call) 0
      (λ e. subst (λ (x : Model). Known T widths sizes (perform F widths sizes v call).left x) (sym (learns_accepted m call (perform F widths sizes v call).answer (performs T widths sizes v call ∙ e))) (accepted T widths sizes v m k call e))
      (λ n. subst (λ (x : Model). Known T widths sizes (perform F widths sizes v call).left x) (sym (learns_refused m call (perform F widths sizes v call).answer (λ e. n (sym (performs T widths sizes v call) ∙ e))))
      (subst (λ (x : Volume). Known T widths sizes x m) (sym (refused_leaves T widths sizes v call n)) k))

  -- ---- one event

  -- after a crash with a state of 4×P words
  crashed_holds : (f : Flash) (state : List ℕ) (m : Model) → SizesFacts sizes.pages sizes.slots → widths sizes.width ≡ true → length state ≡ 4 * sizes.pages → Crashed T sizes f m → Holding T widths sizes (record { volume = record { flash = f; state = state }; lost = true }) m
  crashed_holds f state m bounds allowed long c = unknown refl (record { bounds = bounds; allowed = allowed; flash_sized = c.sized; state_sized = long }) c.lost

  -- where the state is lost, recover answers 0 and the state is known again
  pub recover_finds : (v : Volume) (m : Model) → FitsIn F.layout widths sizes v → Lost T sizes v.flash m → Known T widths sizes (perform F widths sizes v Call.Recover).left (close_all m) × ((perform F widths sizes v Call.Recover).answer ≡ 0)
  unfolding perform with_state
  recover_finds v m fits l =
      let e = accepts T widths sizes v.flash fits.bounds fits.allowed fits.flash_sized l.apart l.core v.state fits.state_sized in
      let o = recover_done T widths sizes v e in (
        subst (λ (o : Outcome (List ℕ)). Known T widths sizes (record { flash = v.flash; state = o.left }) (close_all m)) (sym o)
            (record {
              fits = found_fits T widths sizes v.flash fits.bounds fits.allowed fits.flash_sized l.apart l.core v.state fits.state_sized;
              live = found_again T widths sizes v.flash fits.bounds fits.allowed fits.flash_sized l.apart l.core v.state fits.state_sized m refl;
            }),
        ap (λ (o : Outcome (List ℕ)). o.answer) o,
      )

  -- the only call that comes then
  lost_returns :
      (v : Volume) (m : Model) (call : Call)
      → FitsIn F.layout widths sizes v
      → Lost T sizes v.flash m
      → is_recover call ≡ true
      → Holding T widths sizes (record { volume = (perform F widths sizes v call).left; lost = still_lost true call (perform F widths sizes v call).answer }) (learns m (Told.Answered call (perform F widths sizes v call).answer))
  unfolding is_recover still_lost accept
  lost_returns v m (Call.Launch pages) fits l e = absurd (never refl (sym e))
  lost_returns v m (Call.Write page slot bytes) fits l e = absurd (never refl (sym e))
  lost_returns v m (Call.Withdraw page) fits l e = absurd (never refl (sym e))
  lost_returns v m (Call.Erase slots) fits l e = absurd (never refl (sym e))
  lost_returns v m (Call.Clean block) fits l e = absurd (never refl (sym e))
  lost_returns v m Call.Sweep fits l e = absurd (never refl (sym e))
  lost_returns v m Call.Recover fits l e =
      let k = recover_finds v m fits l in
      subst (λ (x : Model). Holding T widths sizes (record { volume = (perform F widths sizes v Call.Recover).left; lost = still_lost true Call.Recover (perform F widths sizes v Call.Recover).answer }) x)
      (sym (learns_accepted m Call.Recover (perform F widths sizes v Call.Recover).answer k.1))
      (known (rw k.1) k.0.fits k.0.live)

  lost_crashes :
      (v : Volume) (m : Model) (call : Call) (stage : ℕ) (done : ℕ → Bool)
      → SizedIn F.layout sizes.width sizes.slots v.flash
      → Lost T sizes v.flash m
      → is_recover call ≡ true
      → Crashed T sizes (crash_flash T widths sizes v call stage done) (learns m (told_of_crash call (perform F widths sizes v call).answer stage done))
  unfolding is_recover learns told_of_crash planned_stages
  lost_crashes v m (Call.Launch pages) stage done size l e = absurd (never refl (sym e))
  lost_crashes v m (Call.Write page slot bytes) stage done size l e = absurd (never refl (sym e))
  lost_crashes v m (Call.Withdraw page) stage done size l e = absurd (never refl (sym e))
  lost_crashes v m (Call.Erase slots) stage done size l e = absurd (never refl (sym e))
  lost_crashes v m (Call.Clean block) stage done size l e = absurd (never refl (sym e))
  lost_crashes v m Call.Sweep stage done size l e = absurd (never refl (sym e))
  lost_crashes v m Call.Recover stage done size l e =
      subst (λ (x : Flash). Crashed T sizes x (close_all m)) (sym (no_stages T widths sizes v Call.Recover stage done refl)) (crash_lost T sizes v.flash m (record { sized = size; lost = l }))

  -- a call that comes while the state is lost is a recover
  lost_recover : (lost : Bool) (call : Call) → lost ≡ true → cond lost (is_recover call) true ≡ true → is_recover call ≡ true
  lost_recover true call e k = k
  lost_recover false call e k = absurd (never e refl)

  pub event_keeps : (x : World) (m : Model) (e : Event) → Holding T widths sizes x m → keeps_to sizes.pages x e ≡ true → Holding T widths sizes (happens F widths sizes x e) (learns m (told F widths sizes x e))
  unfolding happens told still_lost keeps_to learns
  event_keeps x m (Event.Returns call) (known found fits live) keeps =
      let k = call_known x.volume m call (record { fits = fits; live = live }) in
      known (rw found) k.fits k.live
  event_keeps x m (Event.Returns call) (unknown lost fits l) keeps =
      subst (λ (b : Bool). Holding T widths sizes (record { volume = (perform F widths sizes x.volume call).left; lost = still_lost b call (perform F widths sizes x.volume call).answer }) (learns m (Told.Answered call (perform F widths sizes x.volume call).answer))) (sym lost)
      (lost_returns x.volume m call fits l (lost_recover x.lost call lost keeps))
  event_keeps x m (Event.CrashIn call stage done state) (known found fits live) keeps =
      crashed_holds (crash_flash T widths sizes x.volume call stage done) state (learns m (told_of_crash call (perform F widths sizes x.volume call).answer stage done)) fits.bounds fits.allowed
      (eqb-true (length state) (4 * sizes.pages) (both_right (cond x.lost (is_recover call) true) (eqb (length state) (4 * sizes.pages)) keeps))
      (crash_in T widths sizes x.volume m call stage done (record { fits = fits; live = live }))
  event_keeps x m (Event.CrashIn call stage done state) (unknown lost fits l) keeps =
      crashed_holds (crash_flash T widths sizes x.volume call stage done) state (learns m (told_of_crash call (perform F widths sizes x.volume call).answer stage done)) fits.bounds fits.allowed
      (eqb-true (length state) (4 * sizes.pages) (both_right (cond x.lost (is_recover call) true) (eqb (length state) (4 * sizes.pages)) keeps))
      (lost_crashes x.volume m call stage done fits.flash_sized l
      (lost_recover x.lost call lost (both_left (cond x.lost (is_recover call) true) (eqb (length state) (4 * sizes.pages)) keeps)))
  event_keeps x m (Event.Crash state) (known found fits live) keeps =
      crashed_holds x.volume.flash state (close_all m) fits.bounds fits.allowed (eqb-true (length state) (4 * sizes.pages) keeps) (crash_known T widths sizes x.volume m (record { fits = fits; live = live }))
  event_keeps x m (Event.Crash state) (unknown lost fits l) keeps =
      crashed_holds x.volume.flash state (close_all m) fits.bounds fits.allowed (eqb-true (length state) (4 * sizes.pages) keeps) (crash_lost T sizes x.volume.flash m (record { sized = fits.flash_sized; lost = l }))

-- A crash in any call keeps what the invariant needs after it.
use Rattle.std.specs.Prelude.{ℕ, Bool}
use Rattle.std.proofs.Math.Path.{refl}
use Rattle.bounded.specs.Limits.{Widths}
use Rattle.sizes.specs.declared.Sizes.{Sizes}
use Rattle.rules.specs.Volume.{Volume}
use Rattle.atomicity.specs.Family.{Family}
use Rattle.atomicity.specs.Call.{Call, perform, planned_stages}
use Rattle.atomicity.specs.Model.{Model, learns}
use Rattle.atomicity.specs.Promise.{told_of_crash}
use Rattle.atomicity.proofs.steps.Theory.{Theory}
use Rattle.atomicity.proofs.steps.Stages.{answer_is}
use Rattle.atomicity.proofs.steps.Invariant.{Known}
use Rattle.atomicity.proofs.steps.Crash.{Crashed, crash_flash, no_stages, leaves_flash, crash_spares, crash_write}

module _ {F : Family} (T : Theory F) (widths : Widths) (sizes : Sizes) where
  pub crash_in : (v : Volume) (m : Model) (call : Call) (stage : ℕ) (done : ℕ → Bool) → Known T widths sizes v m → Crashed T sizes (crash_flash T widths sizes v call stage done) (learns m (told_of_crash call (perform F widths sizes v call).answer stage done))
  unfolding learns told_of_crash planned_stages answer_is
  crash_in v m (Call.Launch pages) stage done k = leaves_flash T widths sizes v m (crash_flash T widths sizes v (Call.Launch pages) stage done) k (no_stages T widths sizes v (Call.Launch pages) stage done refl)
  crash_in v m (Call.Write page slot bytes) stage done k = crash_write T widths sizes v m page slot bytes stage done k
  crash_in v m (Call.Withdraw page) stage done k = leaves_flash T widths sizes v m (crash_flash T widths sizes v (Call.Withdraw page) stage done) k (no_stages T widths sizes v (Call.Withdraw page) stage done refl)
  crash_in v m (Call.Erase slots) stage done k = crash_spares T widths sizes v m (Call.Erase slots) stage done k ((T.erases slots).spares widths sizes v k.fits)
  crash_in v m Call.Recover stage done k = leaves_flash T widths sizes v m (crash_flash T widths sizes v Call.Recover stage done) k (no_stages T widths sizes v Call.Recover stage done refl)
  crash_in v m (Call.Clean block) stage done k = crash_spares T widths sizes v m (Call.Clean block) stage done k ((T.cleans block).spares widths sizes v k.fits)
  crash_in v m Call.Sweep stage done k = crash_spares T widths sizes v m Call.Sweep stage done k (T.sweeps.spares widths sizes v k.fits)

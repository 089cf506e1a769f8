-- A volume that is counted, and one that is not.
use Prim.Native.Nat.{◌+◌}
use mathlib.Core.Path.{ap}
use Rattle.fleet.specs.declared.Figures.{Figures}
use Rattle.van.specs.Tally.{tallied_with}
use Rattle.van.proofs.tally.Tally.with.Goals as goal

pub returns-in-Ok : goal.returns-in-Ok
unfolding tallied_with
returns-in-Ok c = let self = c.args.self in
    rw c.in-Ok.is (ap (λ (f : Figures). record { totals = f; volumes = self.volumes + 1 }) c.together.ensures)

pub returns-in-Err : goal.returns-in-Err
unfolding tallied_with
returns-in-Err c = rw c.in-Err.is

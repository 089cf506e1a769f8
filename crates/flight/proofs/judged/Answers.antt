use native.Mathlib.Omega.{arith}
use Rattle.bounded.specs.Choice.{both_right, told}
use Rattle.sizes.specs.Sizes.{sizes_ok, state_fits}
use Rattle.sizes.proofs.SizesLaws.{state_fits_exactly}
use Rattle.flight.proofs.judged.Goals as goal

pub state_sound-requires : goal.state_sound-requires
state_sound-requires c = let e = (state_fits_exactly _ _).0 (both_right (sizes_ok _ _) (state_fits _ _) (told c.state_ok.ensures c.if-not-state_ok.false)) in omega arith

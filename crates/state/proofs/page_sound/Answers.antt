-- Each return is what the tests on its way give.
use native.Mathlib.Omega.{arith}
use Rattle.std.proofs.lemmas.Bool.Decides.{nat_tests}
use Rattle.state.specs.State.{page_sound}
use Rattle.state.proofs.page_sound.Goals as goal

pub returns-then-flight_sound : goal.returns-then-flight_sound
unfolding page_sound
returns-then-flight_sound c = grind (arith, nat_tests)

pub returns-else-flight_sound : goal.returns-else-flight_sound
unfolding page_sound
returns-else-flight_sound c = grind (arith, nat_tests)

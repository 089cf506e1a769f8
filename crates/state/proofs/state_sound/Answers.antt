-- Each return is what the tests on its way give.
use native.Mathlib.Omega.{arith}
use Rattle.std.proofs.lemmas.Bool.Decides.{nat_tests}
use Rattle.state.specs.State.{state_sound}
use Rattle.state.proofs.state_sound.Goals as goal

pub returns-then-pages_sound : goal.returns-then-pages_sound
unfolding state_sound
returns-then-pages_sound c = grind (arith, nat_tests)

pub returns-else-pages_sound : goal.returns-else-pages_sound
unfolding state_sound
returns-else-pages_sound c = grind (arith, nat_tests)

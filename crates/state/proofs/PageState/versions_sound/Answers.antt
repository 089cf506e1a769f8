-- Each return is what the tests on its way give.
use native.Mathlib.Omega.{arith}
use Rattle.std.proofs.lemmas.Bool.Decides.{nat_tests}
use Rattle.state.specs.State.{versions_sound}
use Rattle.state.proofs.PageState.versions_sound.Goals as goal

pub returns-then-self : goal.returns-then-self
unfolding versions_sound
returns-then-self c = grind (arith, nat_tests)

pub returns-else-self : goal.returns-else-self
unfolding versions_sound
returns-else-self c = grind (arith, nat_tests)

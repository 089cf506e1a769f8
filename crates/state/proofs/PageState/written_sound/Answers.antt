-- Each return is what the tests on its way give.
use native.Mathlib.Omega.{arith}
use Rattle.std.proofs.lemmas.Bool.Decides.{nat_tests}
use Rattle.state.specs.State.{written_sound}
use Rattle.state.proofs.PageState.written_sound.Goals as goal

pub returns-then-self-eq0 : goal.returns-then-self-eq0
unfolding written_sound
returns-then-self-eq0 c = grind (arith, nat_tests)

pub returns-then-self-eq1 : goal.returns-then-self-eq1
unfolding written_sound
returns-then-self-eq1 c = grind (arith, nat_tests)

pub returns-else-self-eq1 : goal.returns-else-self-eq1
unfolding written_sound
returns-else-self-eq1 c = grind (arith, nat_tests)

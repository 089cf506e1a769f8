-- Each return is what the tests on its way give.
use native.Mathlib.Omega.{arith}
use Rattle.std.proofs.lemmas.Bool.Decides.{nat_tests}
use Rattle.state.specs.State.{flight_sound}
use Rattle.state.proofs.PageState.flight_sound.Goals as goal

pub returns-then-not-in_flight : goal.returns-then-not-in_flight
unfolding flight_sound
returns-then-not-in_flight c = grind (arith, nat_tests)

pub returns-then-self-pages : goal.returns-then-self-pages
unfolding flight_sound
returns-then-self-pages c = grind (arith, nat_tests)

pub returns-else-self-pages : goal.returns-else-self-pages
unfolding flight_sound
returns-else-self-pages c = grind (arith, nat_tests)

-- Each return is what the tests on its way give.
use native.Mathlib.Omega.{arith}
use Rattle.std.proofs.lemmas.Bool.Decides.{nat_tests}
use Rattle.state.specs.State.{share_next}
use Rattle.state.proofs.PageState.shares_next.Goals as goal

pub returns-then-in_flight-2 : goal.returns-then-in_flight-2
unfolding share_next
returns-then-in_flight-2 c = grind (arith, nat_tests)

pub returns-else-in_flight-2 : goal.returns-else-in_flight-2
unfolding share_next
returns-else-in_flight-2 c = grind (arith, nat_tests)

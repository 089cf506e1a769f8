-- Each return is what the tests on its way give.
use native.Mathlib.Omega.{arith}
use Rattle.std.proofs.lemmas.Bool.Decides.{nat_tests}
use Rattle.sizes.specs.Sizes.{sizes_ok}
use Rattle.sizes.proofs.Sizes.are_ok.Goals as goal

pub returns-then-self-le-MAX_SLOTS : goal.returns-then-self-le-MAX_SLOTS
unfolding sizes_ok
returns-then-self-le-MAX_SLOTS c = grind (arith, nat_tests)

pub returns-else-self-le-MAX_SLOTS : goal.returns-else-self-le-MAX_SLOTS
unfolding sizes_ok
returns-else-self-le-MAX_SLOTS c = grind (arith, nat_tests)

use native.Mathlib.Omega.{arith}
use Rattle.std.proofs.lemmas.Bool.Decides.{nat_tests}
use Rattle.record.specs.Slot.{straddles}
use Rattle.record.proofs.Record.straddles.Goals as goal

pub returns-then-self-other-2 : goal.returns-then-self-other-2
unfolding straddles
returns-then-self-other-2 c = grind (arith, nat_tests)

pub returns-else-self-other-2 : goal.returns-else-self-other-2
unfolding straddles
returns-else-self-other-2 c = grind (arith, nat_tests)

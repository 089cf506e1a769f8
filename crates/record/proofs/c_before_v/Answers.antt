use native.Mathlib.Omega.{arith}
use Rattle.std.proofs.lemmas.Bool.Decides.{nat_tests}
use Rattle.record.specs.SlotLaws.{c_before_v}
use Rattle.record.proofs.c_before_v.Goals as goal

pub returns-then-c-v : goal.returns-then-c-v
unfolding c_before_v
returns-then-c-v c = grind (arith, nat_tests)

pub returns-then-c-eq0 : goal.returns-then-c-eq0
unfolding c_before_v
returns-then-c-eq0 c = grind (arith, nat_tests)

pub returns-else-c-eq0 : goal.returns-else-c-eq0
unfolding c_before_v
returns-else-c-eq0 c = grind (arith, nat_tests)

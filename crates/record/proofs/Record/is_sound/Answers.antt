use native.Mathlib.Omega.{arith}
use Rattle.std.proofs.lemmas.Bool.Decides.{nat_tests}
use Rattle.record.specs.Slot.{record_sound}
use Rattle.record.specs.SlotLaws.{c_before_v}
use Rattle.record.proofs.Record.is_sound.Goals as goal

pub returns-then-self : goal.returns-then-self
unfolding record_sound c_before_v
returns-then-self c = grind (arith, nat_tests)

pub returns-else-self : goal.returns-else-self
unfolding record_sound c_before_v
returns-else-self c = grind (arith, nat_tests)

pub returns-else-c_before_v : goal.returns-else-c_before_v
unfolding record_sound c_before_v
returns-else-c_before_v c = grind (arith, nat_tests)

use Rattle.std.proofs.Common.{arith}
use Rattle.std.proofs.lemmas.Grind.{common_steps}
use Rattle.rules.specs.Simple.{simple_may_erase_record}
use Rattle.permit.proofs.simple.may_erase_record.Goals as goal

pub returns-then-is_obsolete : goal.returns-then-is_obsolete
unfolding simple_may_erase_record
returns-then-is_obsolete c = grind (arith, common_steps)

pub returns-else-is_obsolete : goal.returns-else-is_obsolete
unfolding simple_may_erase_record
returns-else-is_obsolete c = grind (arith, common_steps)

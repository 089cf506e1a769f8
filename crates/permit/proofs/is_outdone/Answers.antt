-- Same page, same c, higher v, tested in this order.
use Rattle.std.proofs.Common.{arith}
use Rattle.std.proofs.lemmas.Grind.{common_steps}
use Rattle.rules.specs.Permission.{outdone_by}
use Rattle.permit.proofs.is_outdone.Goals as goal

pub returns-then-other-straddler-2 : goal.returns-then-other-straddler-2
unfolding outdone_by
returns-then-other-straddler-2 c = grind (arith, common_steps)

pub returns-else-other-straddler-2 : goal.returns-else-other-straddler-2
unfolding outdone_by
returns-else-other-straddler-2 c = grind (arith, common_steps)

-- In flight and at used, tested in this order.
use Rattle.std.proofs.Common.{arith}
use Rattle.std.proofs.lemmas.Grind.{common_steps}
use Rattle.rules.specs.Permission.{is_current}
use Rattle.permit.proofs.is_current.Goals as goal

pub returns-then-in_flight : goal.returns-then-in_flight
unfolding is_current
returns-then-in_flight c = grind (arith, common_steps)

pub returns-else-in_flight : goal.returns-else-in_flight
unfolding is_current
returns-else-in_flight c = grind (arith, common_steps)

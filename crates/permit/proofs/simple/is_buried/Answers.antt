use Rattle.std.proofs.Common.{arith}
use Rattle.std.proofs.lemmas.Grind.{common_steps}
use Rattle.rules.specs.Simple.{buried_by}
use Rattle.permit.proofs.simple.is_buried.Goals as goal

pub returns-then-record-version : goal.returns-then-record-version
unfolding buried_by
returns-then-record-version c = grind (arith, common_steps)

pub returns-then-record-page-2 : goal.returns-then-record-page-2
unfolding buried_by
returns-then-record-page-2 c = grind (arith, common_steps)

pub returns-else-record-page-2 : goal.returns-else-record-page-2
unfolding buried_by
returns-else-record-page-2 c = grind (arith, common_steps)

pub returns-else-is_exposed : goal.returns-else-is_exposed
unfolding buried_by
returns-else-is_exposed c = grind (arith, common_steps)

use Rattle.table.specs.Table.{above}
use Rattle.table.proofs.is_above.Goals as goal

pub returns-in_default : goal.returns-in_default
unfolding above
returns-in_default c = rw c.in_default.is

pub returns : goal.returns
unfolding above
returns c = rw c.in-Some.is

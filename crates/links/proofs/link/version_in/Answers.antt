use Rattle.table.specs.Table.{version_in}
use Rattle.links.proofs.link.version_in.Goals as goal

pub returns-in_default : goal.returns-in_default
unfolding version_in
returns-in_default c = rw c.in_default.is

pub returns : goal.returns
unfolding version_in
returns c = rw c.in-Some.is

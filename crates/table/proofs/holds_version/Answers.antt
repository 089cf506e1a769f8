use borrow.Author.Tests.{ne_eqb, eq-eqb}
use Rattle.record.specs.Slot.{holds}
use Rattle.table.specs.Table.{of_version}
use Rattle.table.proofs.holds_version.Goals as goal

pub returns-in_default : goal.returns-in_default
unfolding holds
returns-in_default c = rw c.in_default.is

pub returns-then-record-page : goal.returns-then-record-page
unfolding holds of_version
returns-then-record-page c = rw (c.in-Some.is, holds, eq-eqb _ _ c.if-record-page.true)

pub returns-else-record-page : goal.returns-else-record-page
unfolding holds of_version
returns-else-record-page c = rw (c.in-Some.is, holds, ne_eqb _ _ c.if-record-page.false)

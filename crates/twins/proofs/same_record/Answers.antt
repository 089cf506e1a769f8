use Rattle.record.specs.Slot.{holds}
use Rattle.twins.specs.Twins.{same_record}
use Rattle.twins.proofs.same_record.Goals as goal

pub returns-in_default : goal.returns-in_default
unfolding same_record
returns-in_default c = rw c.in_default.is

pub returns-in_default-a : goal.returns-in_default-a
unfolding same_record holds
returns-in_default-a c = rw (c.in-Some.is, same_record, c.in_default-a.is)

pub returns : goal.returns
unfolding same_record holds
returns c = rw (c.in-Some.is, same_record, c.in-Some-a.is, holds) c.same_words.ensures

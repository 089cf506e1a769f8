use Rattle.record.specs.Slot.{holds}
use Rattle.links.proofs.link.slot_straddles.Goals as goal

pub returns-in_default : goal.returns-in_default
unfolding holds
returns-in_default c = rw c.in_default.is

pub returns : goal.returns
unfolding holds
returns c = rw c.in-Some.is c.straddles.ensures

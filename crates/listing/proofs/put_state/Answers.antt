use Rattle.text.specs.Scan.{bytes}
use Rattle.listing.specs.Listing.{state_text}
use Rattle.listing.proofs.put_state.Goals as goal

pub returns-then-set : goal.returns-then-set
unfolding state_text bytes
returns-then-set c = rw c.if-set.true c.put_text.ensures

pub returns-else-set : goal.returns-else-set
unfolding state_text bytes
returns-else-set c = rw c.if-set.false c.put_text-else-set.ensures

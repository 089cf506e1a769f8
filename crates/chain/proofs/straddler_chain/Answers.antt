use borrow.Author.Tests.{lt-ltb, le-ltb}
use Rattle.chain.specs.Chain.{may_straddle}
use Rattle.chain.proofs.straddler_chain.Goals as goal

pub returns-then-saturating_sub-gt1 : goal.returns-then-saturating_sub-gt1
unfolding may_straddle
returns-then-saturating_sub-gt1 c = rw (← c.saturating_sub.ensures, lt-ltb 1 c.saturating_sub.result c.if-saturating_sub-gt1.true)

pub returns-else-saturating_sub-gt1 : goal.returns-else-saturating_sub-gt1
unfolding may_straddle
returns-else-saturating_sub-gt1 c = rw (← c.saturating_sub.ensures, le-ltb 1 c.saturating_sub.result c.if-saturating_sub-gt1.false)

use Rattle.std.proofs.Common.{rules}
use Rattle.dispatch.specs.Dispatch.{lost}
use Rattle.dispatch.proofs.lose.Goals as goal

pub returns : goal.returns
unfolding lost
returns c = search rules

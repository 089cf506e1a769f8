-- The page leaves flight as `commits` says.
use native.Mathlib.Omega.{arith}
use Rattle.std.proofs.lemmas.Bool.Decides.{nat_tests}
use Rattle.state.specs.Change.{at_rest, committed_page, withdrawn_page}
use Rattle.state.specs.Walk.{ended_page}
use Rattle.state.proofs.PageState.ended.Goals as goal

pub returns : goal.returns
unfolding at_rest committed_page withdrawn_page ended_page
returns c = grind (arith, nat_tests)

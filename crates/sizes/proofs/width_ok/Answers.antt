-- Each return is what the tests on its way give.
use borrow.Author.Tests.{ne_eqb, eq-eqb}
use Rattle.bounded.specs.Limits.{two_widths}
use Rattle.sizes.proofs.width_ok.Goals as goal

ruleset tests = (ne_eqb, eq-eqb)

pub returns-then-width-eq32 : goal.returns-then-width-eq32
unfolding two_widths
returns-then-width-eq32 c = search tests

pub returns-else-width-eq32 : goal.returns-else-width-eq32
unfolding two_widths
returns-else-width-eq32 c = search tests

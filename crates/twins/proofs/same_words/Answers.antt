use borrow.Author.Tests.{ne_eqb, eq-eqb}
use Rattle.twins.specs.Twins.{same_words}
use Rattle.twins.proofs.same_words.Goals as goal

ruleset tests = (ne_eqb, eq-eqb)

pub returns-then-a-b : goal.returns-then-a-b
unfolding same_words
returns-then-a-b c = search tests

pub returns-then-a-b-2 : goal.returns-then-a-b-2
unfolding same_words
returns-then-a-b-2 c = search tests

pub returns-then-a-b-3 : goal.returns-then-a-b-3
unfolding same_words
returns-then-a-b-3 c = search tests

pub returns-then-a-b-4 : goal.returns-then-a-b-4
unfolding same_words
returns-then-a-b-4 c = search tests

pub returns : goal.returns
unfolding same_words
returns c = search tests

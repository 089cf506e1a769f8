use borrow.Author.Tests.{tests}
use mathlib.Core.Path.{sym, ◌∙◌}
use Rattle.std.proofs.Common.{rules}
use Rattle.state.specs.State.{in_flight}
use Rattle.rules.specs.Launch.{used_up}
use Rattle.rules.specs.laws.Chains.{list_answer}
use Rattle.flight.proofs.may_fly.Goals as goal

pub returns-then-some_page : goal.returns-then-some_page
unfolding list_answer
returns-then-some_page c = rw (sym (c.some_page.ensures in_flight (λ page b k. search (rules, tests))) ∙ c.if-some_page.true)

pub returns-then-some_page-2 : goal.returns-then-some_page-2
unfolding list_answer used_up
returns-then-some_page-2 c = rw (
  sym (c.some_page.ensures in_flight (λ page b k. search (rules, tests))) ∙ c.if-some_page.false,
  sym (c.some_page-2.ensures used_up (λ page b k. search (rules, tests))) ∙ c.if-some_page-2.true,
)

pub returns : goal.returns
unfolding list_answer used_up
returns c = rw (
  sym (c.some_page.ensures in_flight (λ page b k. search (rules, tests))) ∙ c.if-some_page.false,
  sym (c.some_page-2.ensures used_up (λ page b k. search (rules, tests))) ∙ c.if-some_page-2.false,
)

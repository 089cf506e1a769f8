use mathlib.Core.Path.{◌∙◌}
use Rattle.bounded.specs.Choice.{told}
use Rattle.recovery.specs.Answers.{record_missing, answer_by_links}
use Rattle.recovery.proofs.records_answer.Goals as goal

pub invariant_of-survey : goal.invariant_of-survey
invariant_of-survey c = record { tops = c.highest_slots.ensures }

pub returns-then-not-records_present-clause-answer : goal.returns-then-not-records_present-clause-answer
returns-then-not-records_present-clause-answer c = record_missing _ _ _ _ (told c.records_present.ensures c.if-not-records_present.true)

pub returns-clause-answer : goal.returns-clause-answer
returns-clause-answer c = c.links_answer.ensures.answer ∙ answer_by_links _ _ _ _ (told c.records_present.ensures c.if-not-records_present.false)

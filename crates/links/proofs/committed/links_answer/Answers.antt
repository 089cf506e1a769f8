use mathlib.Core.Path.{sym, ◌∙◌}
use Rattle.outcome.specs.Result.{given_back, refuses, passes}
use Rattle.links.specs.Tables.{verdicts_inside, verdicts_astray, verdicts_followed}
use Rattle.links.specs.Answer.{links_chain}
use Rattle.links.proofs.committed.links_answer.Goals as goal

pub follow_all-requires-clause-stays_inside : goal.follow_all-requires-clause-stays_inside
follow_all-requires-clause-stays_inside c = verdicts_inside c.args.survey.now.table _ c.store_verdicts.ensures

pub returns-in_err-follow_all-clause-answer : goal.returns-in_err-follow_all-clause-answer
returns-in_err-follow_all-clause-answer c = rw (given_back c.from_residual.result c.from_residual.ensures.1)
    (refuses _ _ (rw (verdicts_astray c.args.survey.now.table _ c.store_verdicts.ensures) at c.in_err-follow_all.ensures.astray) ∙ sym (links_chain _ _ _ _))

pub commit_pages-requires-clause-followed : goal.commit_pages-requires-clause-followed
commit_pages-requires-clause-followed c = verdicts_followed c.args.survey.now.table _ c.store_verdicts.ensures _ c.in_ok-follow_all.ensures.followed

pub returns-clause-answer : goal.returns-clause-answer
returns-clause-answer c = passes _ (rw (verdicts_astray c.args.survey.now.table _ c.store_verdicts.ensures) at c.in_ok-follow_all.ensures.astray) c.commit_pages.ensures.answer
    ∙ sym (links_chain _ _ _ _)

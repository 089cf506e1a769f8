use mathlib.Core.Path.{sym, ◌∙◌}
use Rattle.bounded.specs.Choice.{told}
use Rattle.links.specs.Tables.{versions_by_table}
use Rattle.links.proofs.committed.commit_pages.Goals as goal

pub returns-then-not-versions_present-clause-answer : goal.returns-then-not-versions_present-clause-answer
returns-then-not-versions_present-clause-answer c = let t = c.args.survey.now.table in
    rw (sym (versions_by_table _ _ _ _ _ t.pages_few c.committed_versions-links.ensures.committed_after) ∙ told c.versions_present.ensures c.if-not-versions_present.true)

pub returns-clause-answer : goal.returns-clause-answer
returns-clause-answer c = let t = c.args.survey.now.table in
    rw (sym (versions_by_table _ _ _ _ _ t.pages_few c.committed_versions-links.ensures.committed_after) ∙ told c.versions_present.ensures c.if-not-versions_present.false)

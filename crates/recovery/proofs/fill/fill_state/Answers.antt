use mathlib.Core.Path.{◌∙◌}
use Rattle.recovery.specs.Answers.{recovered_by_tables}
use Rattle.recovery.proofs.fill.fill_state.Goals as goal

pub returns : goal.returns
returns c = let pre = c.requires in
    let t = c.args.table.now in
    c.store_pages.ensures
    ∙ recovered_by_tables _ _ _ _ _ _ t.pages_few t.sound pre.accepted pre.committed_value c.used_versions.ensures

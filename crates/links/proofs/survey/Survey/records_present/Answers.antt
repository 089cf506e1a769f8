use native.Mathlib.Omega.{arith}
use mathlib.Core.Path.{◌≡◌, sym, ap, ◌∙◌}
use mathlib.Core.Bool.{not}
use Rattle.bounded.specs.BelowLaws.{all_zero, all_more, all_fails}
use Rattle.links.specs.Tables.{tops_records}
use Rattle.links.proofs.survey.Survey.records_present.Goals as goal

pub loop-page-init : goal.loop-page-init
loop-page-init c = all_zero _

pub returns-then-is_none : goal.returns-then-is_none
returns-then-is_none c = sym (all_fails _ _ c.loop-page.page c.loop-page-test.true (c.is_none.ensures ∙ ap not c.if-is_none.true)) ∙ tops_records c.args.self.now

pub loop-page-preserved : goal.loop-page-preserved
loop-page-preserved c = all_more _ _ c.loop-page.invariant (c.is_none.ensures ∙ ap not c.if-is_none.false)

pub returns : goal.returns
returns c = let l = c.loop-page in
    let e : l.page ≡ c.args.self.now.table.sizes.pages = omega arith in
    sym (rw e at l.invariant) ∙ tops_records c.args.self.now

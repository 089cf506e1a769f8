use native.Mathlib.Omega.{arith}
use mathlib.Core.Path.{◌≡◌, sym}
use Rattle.bounded.specs.Choice.{told}
use Rattle.bounded.specs.BelowLaws.{all_zero, all_more, all_fails}
use Rattle.links.proofs.committed.PageChains.versions_present.Goals as goal

pub loop-page-init : goal.loop-page-init
loop-page-init c = all_zero _

pub returns-then-not-version_present : goal.returns-then-not-version_present
returns-then-not-version_present c = sym (all_fails _ _ c.loop-page.page c.loop-page-test.true (told c.version_present.ensures c.if-not-version_present.true))

pub loop-page-preserved : goal.loop-page-preserved
loop-page-preserved c = all_more _ _ c.loop-page.invariant (told c.version_present.ensures c.if-not-version_present.false)

pub returns : goal.returns
returns c = let l = c.loop-page in
    let e : l.page ≡ c.args.self.now.survey.table.sizes.pages = omega arith in
    sym (rw e at l.invariant)

use native.Mathlib.Omega.{arith}
use mathlib.Core.Path.{◌≡◌, refl, ap, ◌∙◌}
use lib.ListN.{length-set}
use Rattle.bounded.specs.Fill.{filled_none}
use Rattle.state.specs.declared.PageState.{PageState}
use Rattle.doubtful.specs.VersionsLaws.{noted_below, noted_more, noted_all}
use Rattle.doubtful.proofs.versions.note.Goals as goal

pub loop-page-init : goal.loop-page-init
loop-page-init c = (refl, filled_none _ _ _)

pub loop-page-preserved : goal.loop-page-preserved
loop-page-preserved c = let l = c.loop-page in
    let version = ap (λ (s : PageState). s.committed) c.page_at-version.ensures in (
      simp length-set l.invariant.0,
      noted_more _ _ c.args.state.now c.args.out.now c.requires.out_len l.page c.loop-page-test.true l.invariant.1 version c.lowest.ensures c.highest.ensures,
    )

pub returns : goal.returns
returns c = let l = c.loop-page in
    let e : l.page ≡ c.args.pages = omega arith in
    l.invariant.1 ∙ ap (noted_below c.args.first c.args.state.now c.args.out.now) e ∙ noted_all _ _ _ _ c.requires.out_len

-- Each layout's planned record is the one that the layout says.
use native.Mathlib.Omega.{arith}
use mathlib.Core.Path.{ap, ◌∙◌}
use Rattle.state.specs.declared.PageState.{PageState}
use Rattle.state.specs.WalkLaws.{walkable_facts}
use Rattle.transact.specs.Accepted.{plan_is, simple_plan_is, plan_in_lem}
use Rattle.transact.proofs.plan_of.Goals as goal

pub page_at-next-requires : goal.page_at-next-requires
page_at-next-requires c = let w = c.requires in
    let n = ((walkable_facts _ _ _ w).page _ w.below).next_below w.flies in
    let q = w.fits in
    omega (arith, ap (λ (s : PageState). s.next) c.page_at-s.ensures)

pub returns-in-FiveWords : goal.returns-in-FiveWords
returns-in-FiveWords c = plan_in_lem _ _ c.in-FiveWords.is
    (c.planned.ensures ∙ plan_is _ _ _ _ c.page_at-s.ensures c.page_at-next.ensures)

pub returns-in-FourWords : goal.returns-in-FourWords
returns-in-FourWords c = plan_in_lem _ _ c.in-FourWords.is
    (c.planned-in-FourWords.ensures ∙ simple_plan_is _ _ _ _ c.page_at-s.ensures c.page_at-next.ensures)

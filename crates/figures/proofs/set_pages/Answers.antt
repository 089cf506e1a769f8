use native.Mathlib.Omega.{arith}
use mathlib.Core.Path.{sym, ap, ◌∙◌}
use Rattle.state.specs.State.{is_set}
use Rattle.figures.specs.CountingLaws.{none_set, set_most, one_set, not_set}
use Rattle.figures.proofs.set_pages.Goals as goal
use Rattle.figures.proofs.set_pages.Goals.{then-is_set, else-is_set}

pub loop-page-init : goal.loop-page-init
loop-page-init c = none_set _

pub overflow_add-count : goal.overflow_add-count
overflow_add-count c = let l = c.loop-page in
    let m = set_most _ l.page l.invariant in
    omega arith

pub loop-page-preserved : goal.loop-page-preserved
loop-page-preserved c = let l = c.loop-page in
    let says = c.is_set.ensures ∙ ap is_set c.page_at.ensures in
    elim c.if-is_set.branch [
      | then-is_set w ↦ w.count-is ∙ one_set _ l.page l.invariant (sym says ∙ w.if-is_set.true)
      | else-is_set w ↦ w.count-is ∙ not_set _ l.page l.invariant (sym says ∙ w.if-is_set.false)
    ]

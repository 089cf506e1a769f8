use mathlib.Core.Path.{sym, ap₂, ◌∙◌}
use Rattle.bounded.specs.Choice.{not_yes, not_no}
use native.Mathlib.Omega.{arith}
use Rattle.bounded.specs.BelowLaws.{all_zero, all_more, all_fails}
use Rattle.state.specs.State.{share_next}
use Rattle.state.proofs.next_apart.Goals as goal

pub loop-lower-init : goal.loop-lower-init
loop-lower-init c = all_zero _

pub returns-then-shares_next : goal.returns-then-shares_next
returns-then-shares_next c = let answer = c.shares_next.ensures ∙ ap₂ share_next c.page_at.ensures c.page_at-s.ensures in
    sym (all_fails _ _ c.loop-lower.lower (omega arith) (not_yes (sym answer ∙ c.if-shares_next.true)))

pub loop-lower-preserved : goal.loop-lower-preserved
loop-lower-preserved c = let answer = c.shares_next.ensures ∙ ap₂ share_next c.page_at.ensures c.page_at-s.ensures in
    all_more _ _ c.loop-lower.invariant (not_no (sym answer ∙ c.if-shares_next.false))

use native.Mathlib.Omega.{arith}
use mathlib.Core.Path.{◌≡◌, sym}
use Rattle.bounded.specs.BelowLaws.{all_zero, all_more, all_fails}
use Rattle.bounded.specs.Choice.{told}
use Rattle.state.specs.State.{nexts_apart}
use Rattle.state.proofs.nexts_apart.Goals as goal

pub loop-page-init : goal.loop-page-init
loop-page-init c = all_zero _

pub returns-then-not-next_apart : goal.returns-then-not-next_apart
unfolding nexts_apart
returns-then-not-next_apart c = sym (all_fails _ _ c.loop-page.page (omega arith) (told c.next_apart.ensures c.if-not-next_apart.true))

pub loop-page-preserved : goal.loop-page-preserved
loop-page-preserved c = all_more _ _ c.loop-page.invariant (told c.next_apart.ensures c.if-not-next_apart.false)

pub returns : goal.returns
unfolding nexts_apart
returns c = let l = c.loop-page in
    let e : l.page ≡ c.args.pages = omega arith in
    sym (rw e at l.invariant)

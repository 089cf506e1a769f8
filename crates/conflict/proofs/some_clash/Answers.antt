use native.Mathlib.Omega.{arith}
use mathlib.Core.Path.{◌≡◌, refl, sym, ◌∙◌}
use Rattle.bounded.specs.BelowLaws.{some_zero, some_more, some_of}
use Rattle.table.specs.Table.{some_clash}
use Rattle.chain.proofs.ChainLaws.{chained_none, end_some}
use Rattle.conflict.proofs.some_clash.Goals as goal

pub loop-k-init : goal.loop-k-init
loop-k-init c = (some_zero _, chained_none _ _ 2048 refl)

pub returns-then-is_some : goal.returns-then-is_some
unfolding some_clash
returns-then-is_some c = sym (some_of _ _ c.loop-k.k c.loop-k-test.true (c.find_clash.ensures.tells ∙ end_some _ ∙ sym c.is_some.ensures ∙ c.if-is_some.true))

pub loop-k-preserved : goal.loop-k-preserved
loop-k-preserved c = let l = c.loop-k in
    (some_more _ _ l.invariant.0 (c.find_clash.ensures.tells ∙ end_some _ ∙ sym c.is_some.ensures ∙ c.if-is_some.false), c.link_slot.ensures)

pub returns : goal.returns
unfolding some_clash
returns c = let l = c.loop-k in
    let e : l.k ≡ c.args.slots = omega arith in
    sym (rw e at l.invariant.0)

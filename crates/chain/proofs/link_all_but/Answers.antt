use mathlib.Core.Path.{refl}
use Rattle.chain.proofs.ChainLaws.{chained_none, chained_blank}
use Rattle.chain.proofs.link_all_but.Goals as goal
use Rattle.chain.proofs.link_all_but.Goals.{then-not-passes, else-not-passes}

pub loop-k-init : goal.loop-k-init
loop-k-init g c = chained_none _ _ 2048 refl

pub loop-k-preserved : goal.loop-k-preserved
loop-k-preserved g c = elim c.if-not-passes.branch [
  | then-not-passes w ↦ rw w.chains-is w.link_slot.ensures
  | else-not-passes w ↦ rw w.chains-is (chained_blank _ _ _ _ c.loop-k.invariant (c.requires.blank c.loop-k.k c.loop-k-test.true (rw w.if-not-passes.false at c.passes.ensures)))
]

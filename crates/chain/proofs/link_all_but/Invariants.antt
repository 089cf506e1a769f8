-- The invariant: the chains of the slots below k.
use Rattle.record.specs.Slot.{slot_in}
use Rattle.chain.specs.Chain.{Chained}
use Rattle.chain.proofs.link_all_but.Given as goal

abbrev pub invariant-loop-k : goal.invariant-loop-k
invariant-loop-k g l = Chained l.key l.k (slot_in l.layout l.words) l.chains

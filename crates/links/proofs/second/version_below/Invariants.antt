-- The walk goes down the page's chain: the highest is the best so far, or of what is left, which ends at `at`.
use Prim.Native.Nat.{◌%◌}
use Rattle.sizes.specs.declared.Layout.TheVariants.{FourWords}
use Rattle.record.specs.Slot.{slot_in}
use Rattle.chain.specs.declared.Key.TheVariants.{Page}
use Rattle.chain.specs.Chain.{end_of}
use Rattle.chain.proofs.ChainLaws.{Most}
use Rattle.links.specs.Committed.{mark, mark_under}
use Rattle.links.proofs.second.version_below.Given as goal

abbrev pub invariant-loop-at : goal.invariant-loop-at
invariant-loop-at l = Most Page l.slots (slot_in FourWords l.words) (l.page % 256) (λ k. mark_under l.page l.version (slot_in FourWords l.words k)) (mark l.best) (end_of l.at)

abbrev pub decreases-loop-at : goal.decreases-loop-at
decreases-loop-at l = end_of l.at

-- The search goes along the chain of the link's next page: what is left of it ends at `at`.
use Prim.Native.Nat.{◌%◌}
use Rattle.record.specs.Slot.{slot_at, holds, straddles}
use Rattle.chain.specs.declared.Key.TheVariants.{Straddler}
use Rattle.chain.specs.Chain.{end_of}
use Rattle.chain.proofs.ChainLaws.{Left}
use Rattle.links.proofs.link.is_straddled.Given as goal

abbrev pub invariant-loop : goal.invariant-loop
invariant-loop l = Left Straddler l.slots (slot_at l.words) (l.link.np % 256) (λ k. holds (λ K. straddles K l.link) (slot_at l.words k)) (end_of l.at)

-- The search goes down the chain of the slot's record: what is left of it ends at `at`, which is not above the slot.
use Prim.Native.Nat.{◌≤◌}
use mathlib.Core.Path.{◌≡◌}
use Rattle.sizes.specs.Blocks.{in_block}
use Rattle.record.specs.declared.Record.{Record}
use Rattle.std.specs.Prelude.{Some}
use Rattle.record.specs.Slot.{slot_at}
use Rattle.record.specs.Flash.{flash}
use Rattle.chain.specs.declared.Key.TheVariants.{Pointer}
use Rattle.chain.specs.Chain.{chain_of, end_of}
use Rattle.chain.proofs.ChainLaws.{Left}
use Rattle.judge.specs.BlockTwins.{lower_twin}
use Rattle.judge.proofs.choose.has_lower_twin.Given as goal

abbrev pub invariant-loop-at : goal.invariant-loop-at
invariant-loop-at l = (end_of l.at ≤ l.slot)
    × (r : Record)
    × (slot_at l.words l.slot ≡ Some r)
    × Left Pointer l.sizes.slots (slot_at l.words) (chain_of Pointer r) (lower_twin l.sizes.width (flash l.words l.contents) (in_block l.block) l.slot) (end_of l.at)

abbrev pub decreases-loop-at : goal.decreases-loop-at
decreases-loop-at l = end_of l.at

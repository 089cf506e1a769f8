-- The search goes along the chain of the slot's record: what is left of it ends at `at`.
use mathlib.Core.Path.{◌≡◌}
use Rattle.record.specs.declared.Record.{Record}
use Rattle.std.specs.Prelude.{Some}
use Rattle.record.specs.Slot.{slot_at}
use Rattle.record.specs.Flash.{flash}
use Rattle.chain.specs.declared.Key.TheVariants.{Pointer}
use Rattle.chain.specs.Chain.{chain_of, end_of}
use Rattle.chain.proofs.ChainLaws.{Left}
use Rattle.judge.specs.Marked.{marked}
use Rattle.judge.specs.JudgeLaws.{outside}
use Rattle.judge.proofs.Evidence.twin_outside.Given as goal

abbrev pub invariant-loop-at : goal.invariant-loop-at
invariant-loop-at l = (r : Record) × (slot_at l.self.table.words.now l.slot ≡ Some r)
    × Left Pointer l.self.table.sizes.slots (slot_at l.self.table.words.now) (chain_of Pointer r) (outside l.self.table.sizes.width (flash l.self.table.words.now l.self.contents.now) (marked l.marks) l.slot) (end_of l.at)

abbrev pub decreases-loop-at : goal.decreases-loop-at
decreases-loop-at l = end_of l.at

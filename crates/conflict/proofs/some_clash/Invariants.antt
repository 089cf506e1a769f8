-- The invariant: no two slots below k clash, and they are chained by page and version.
use mathlib.Core.Path.{◌≡◌}
use mathlib.Core.Bool.{false}
use Rattle.bounded.specs.Below.{some_below}
use Rattle.record.specs.Slot.{slot_in}
use Rattle.table.specs.Table.{clash}
use Rattle.chain.specs.declared.Key.TheVariants.{Version}
use Rattle.chain.specs.Chain.{Chained}
use Rattle.conflict.proofs.some_clash.Given as goal

abbrev pub invariant-loop-k : goal.invariant-loop-k
invariant-loop-k l = (some_below l.k (λ i. some_below i (λ j. clash (slot_in l.layout l.words j) (slot_in l.layout l.words i))) ≡ false)
    × Chained Version l.k (slot_in l.layout l.words) l.chains

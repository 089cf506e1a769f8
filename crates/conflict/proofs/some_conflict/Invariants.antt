-- The invariant: no two slots below k conflict, and they are chained by page and version.
use mathlib.Core.Path.{◌≡◌}
use mathlib.Core.Bool.{false}
use Rattle.record.specs.Slot.{slot_at}
use Rattle.record.specs.Flash.{flash}
use Rattle.twins.specs.Twins.{twins, some_conflict}
use Rattle.chain.specs.declared.Key.TheVariants.{Version}
use Rattle.chain.specs.Chain.{Chained}
use Rattle.conflict.proofs.some_conflict.Given as goal

abbrev pub invariant-loop-k : goal.invariant-loop-k
invariant-loop-k l = (some_conflict l.k (slot_at l.words) (twins l.sizes.width (flash l.words l.contents)) ≡ false)
    × Chained Version l.k (slot_at l.words) l.chains

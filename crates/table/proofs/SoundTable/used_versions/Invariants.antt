use mathlib.Core.Path.{◌≡◌}
use Rattle.bounded.specs.Tabulate.{tabulate}
use Rattle.record.specs.Slot.{slot_in}
use Rattle.table.specs.Table.{used_of}
use Rattle.table.proofs.SoundTable.used_versions.Given as goal

abbrev pub invariant-loop-k : goal.invariant-loop-k
invariant-loop-k l = l.used ≡ tabulate 256 (used_of l.k (slot_in l.self.layout l.self.words.now))

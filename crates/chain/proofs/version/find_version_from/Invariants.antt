-- The search goes along the chain of the page and version: what is left of it ends at `slot`.
use Prim.Native.Nat.{ℕ, ◌+◌}
use mathlib.Core.Path.{◌≡◌}
use mathlib.Core.Bool.{true}
use Rattle.record.specs.declared.Record.{Record}
use Rattle.record.specs.Slot.{slot_in, holds}
use Rattle.table.specs.Table.{of_version}
use Rattle.chain.specs.declared.Key.{Key}
use Rattle.chain.specs.Chain.{chain_of, by_version, Chained}
use Rattle.chain.proofs.ChainLaws.{Left}
use Rattle.chain.proofs.version.find_version_from.Given as goal

abbrev pub sought : (p v : ℕ) → Record
sought p v = record { p = p; v = v; c = 0; np = 0; nv = 0 }

abbrev pub invariant-loop : goal.invariant-loop
invariant-loop l = (key : Key)
    × (by_version key ≡ true)
    × Chained key l.n (slot_in l.layout l.words) l.chains
    × Left key l.n (slot_in l.layout l.words) (chain_of key (sought l.page l.version)) (λ j. holds (of_version l.page l.version) (slot_in l.layout l.words j)) (l.slot + 1)

-- The invariant: no mark stands, and no slot below this one may be erased.
use Prim.Native.Nat.{ℕ, ◌<◌}
use mathlib.Core.Path.{◌≡◌}
use mathlib.Core.Bool.{false}
use Rattle.rules.specs.Permission.{may_erase_alone}
use Rattle.judge.specs.Marked.{NoMarks}
use Rattle.judge.specs.Evidence.{shown}
use Rattle.judge.proofs.Evidence.first_permitted.Given as goal

abbrev pub invariant-loop-slot : goal.invariant-loop-slot
invariant-loop-slot l = NoMarks l.marks × ((k : ℕ) → k < l.slot → may_erase_alone (shown l.self) k ≡ false)

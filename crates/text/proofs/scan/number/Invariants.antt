-- The invariant: with the digits passed, the number goes on from what is left as the number at the front.
use Prim.Native.Nat.{◌-◌, ◌≤◌}
use mathlib.Core.Path.{◌≡◌}
use lib.ListN.{length}
use Rattle.text.specs.Scan.{number, number_from}
use Rattle.text.proofs.scan.number.Given as goal

abbrev pub invariant-loop-rest : goal.invariant-loop-rest
invariant-loop-rest l = (l.value ≤ 4294967295) × (length l.rest ≤ length l.text) × (number l.text ≡ number_from (length l.text - length l.rest) l.value l.rest)

abbrev pub decreases-loop-rest : goal.decreases-loop-rest
decreases-loop-rest l = length l.rest

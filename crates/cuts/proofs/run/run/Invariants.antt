-- The invariant: what the lines from here on come to, behind the tally so far, is what all of them come to.
use Prim.Native.Nat.{◌+◌, ◌*◌, ◌-◌, ◌≤◌}
use mathlib.Core.Path.{◌≡◌}
use lib.ListN.{length}
use Rattle.recorded.specs.Held.{desk_of, SameBuffers}
use Rattle.recorded.specs.Bytes.{InBytes}
use Rattle.cuts.specs.Ran.{none_yet}
use Rattle.cuts.specs.RunLaws.{from_here}
use Rattle.cuts.proofs.run.run.Given as goal

abbrev pub invariant-loop-at : goal.invariant-loop-at
invariant-loop-at l = (l.at ≤ length l.text)
    × ((1 ≤ l.lines_done) × (l.lines_done ≤ 256))
    × (l.tally.same + l.tally.differ + 64 ≤ 64 * l.lines_done)
    × ((l.desk.sizes ≡ l.initial.desk.sizes) × (l.desk.trial ≡ l.initial.desk.trial) × SameBuffers l.initial.desk l.desk)
    × (InBytes (desk_of l.initial.desk) → InBytes (desk_of l.desk))
    × (from_here l.initial.desk.sizes l.initial.desk.trial l.text l.tally (desk_of l.desk) l.lines_done l.at ≡ from_here l.initial.desk.sizes l.initial.desk.trial l.text none_yet (desk_of l.initial.desk) 1 l.from)

abbrev pub decreases-loop-at : goal.decreases-loop-at
decreases-loop-at l = length l.text - l.at

-- The invariant: the fillings below m are noted.
use Prim.Native.Nat.{◌≤◌}
use mathlib.Core.Path.{◌≡◌}
use lib.ListN.{length}
use Rattle.bounded.specs.Limits.{two_widths}
use Rattle.doubtful.specs.Ends.{FillingsNoted}
use Rattle.doubtful.specs.Held.{held}
use Rattle.doubtful.proofs.Doubted.recover_fillings.Given as goal

abbrev pub invariant-loop-m : goal.invariant-loop-m
invariant-loop-m l = (l.count ≤ l.m)
    × (length l.filled ≡ length l.initial.filled)
    × (length l.state ≡ length l.initial.state)
    × (length l.out ≡ length l.initial.out)
    × FillingsNoted two_widths l.self.sizes (held l.self) l.self.list.now l.initial.out l.m l.count l.out

-- No volume has more than 53,260 bytes, so that 32 have their room.
use Rattle.std.proofs.Common.{◌*◌, ◌≡◌, ◌≤◌, length}
use Rattle.van_main.proofs.read_volumes.Given as goal

abbrev pub invariant-loop : goal.invariant-loop
invariant-loop g l = (length l.input ≡ length l.initial.input) × (l.at ≤ 53260 * l.counter)

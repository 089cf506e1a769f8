-- The invariant: the buffers are those that were lent.
use Rattle.feed.specs.Stands.{SameRoom}
use Rattle.stream.proofs.pass.Given as goal

abbrev pub invariant-loop-byte : goal.invariant-loop-byte
invariant-loop-byte g l = SameRoom l.initial.script l.script

-- The invariant: the memory has room for every volume that a line can name.
use Rattle.script.specs.Held.{memory_of}
use Rattle.script.specs.Enough.{Room}
use Rattle.script_main.proofs.run_all.Given as goal

abbrev pub invariant-loop : goal.invariant-loop
invariant-loop g l = Room (memory_of l.script.memory)

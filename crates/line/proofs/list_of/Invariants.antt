-- The invariant: the first k numbers are in the list, and the others are to be read from what is left.
use lib.ListN.{length}
use Rattle.line.specs.LineLaws.{Goes}
use Rattle.line.proofs.list_of.Given as goal

abbrev pub invariant-loop-k : goal.invariant-loop-k
invariant-loop-k l = Goes (length l.initial.list) l.text l.list l.k l.rest

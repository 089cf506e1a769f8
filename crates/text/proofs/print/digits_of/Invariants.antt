-- The invariant: the digits that are still to be put, then those put from i on, are the number's.
use mathlib.Core.Path.{◌≡◌}
use mathlib.Core.List.{◌++◌}
use lib.ListN.{length, drop}
use Rattle.text.specs.Print.{decimal_in}
use Rattle.text.proofs.print.digits_of.Given as goal

abbrev pub invariant-loop-i : goal.invariant-loop-i
invariant-loop-i l = decimal_in (length l.initial.digits) l.n ≡ decimal_in l.i l.rest ++ drop l.i l.digits

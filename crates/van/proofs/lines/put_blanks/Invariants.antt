-- The invariant: a blank is put for each turn.
use Rattle.text.specs.Puts.{Puts}
use Rattle.fleet.specs.Page.{blanks}
use Rattle.van.proofs.lines.put_blanks.Given as goal

abbrev pub invariant-loop : goal.invariant-loop
invariant-loop l = Puts l.initial.out l.out (blanks l.counter)

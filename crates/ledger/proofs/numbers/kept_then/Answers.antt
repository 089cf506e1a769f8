use borrow.Author.Tests.{ne_eqb}
use mathlib.Core.Path.{refl}
use Rattle.bounded.specs.Limits.{no_number}
use Rattle.ledger.specs.Ledger.{kept_then}
use Rattle.ledger.specs.Fills.{fill_of}
use Rattle.ledger.specs.FillsLaws.{none_kept}
use Rattle.ledger.proofs.numbers.kept_then.Goals as goal
use Rattle.ledger.proofs.numbers.kept_then.Goals.{else-done-via-then-done+then-not-in_flight+else-fill, else-done-via-then-done+else-not-in_flight, else-done-via-else-done}

pub returns-in_default : goal.returns-in_default
unfolding fill_of
returns-in_default c = let a = c.args in rw c.in_default.is (none_kept a.done a.s a.kept)

pub returns-then-fill : goal.returns-then-fill
unfolding fill_of kept_then
returns-then-fill c = rw (c.in-Some.is, c.if-done.true, ← c.in_flight.ensures, c.if-not-in_flight.true, ne_eqb c.in-Some.fill no_number c.if-fill.true) refl

pub returns-else-done : goal.returns-else-done
unfolding fill_of kept_then
returns-else-done c = let a = c.args in
    elim c.else-done.branch [
      | else-done-via-then-done+then-not-in_flight+else-fill w ↦ rw (c.in-Some.is, w.if-fill.false) (none_kept a.done a.s a.kept)
      | else-done-via-then-done+else-not-in_flight w ↦ rw (c.in-Some.is, w.if-done.true, ← w.in_flight.ensures, w.if-not-in_flight.false) refl
      | else-done-via-else-done w ↦ rw (c.in-Some.is, w.if-done.false) refl
    ]

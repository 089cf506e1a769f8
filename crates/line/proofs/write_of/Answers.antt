use Rattle.text.specs.Scan.{bytes}
use Rattle.line.specs.Line.{write_means, on_number}
use Rattle.line.proofs.write_of.Goals as goal

pub returns-in_err-page : goal.returns-in_err-page
unfolding bytes write_means on_number
returns-in_err-page c l = rw (c.from_residual.ensures, ← c.in_err-page.ensures)

pub returns-in_err-slot : goal.returns-in_err-slot
unfolding bytes write_means on_number
returns-in_err-slot c l = rw (c.from_residual-in_err-slot.ensures, ← c.in_ok-page.ensures, ← c.in_err-slot.ensures)

pub returns : goal.returns
unfolding bytes write_means on_number
returns c l = rw (← c.in_ok-page.ensures, ← c.in_ok-slot.ensures) (c.fill_of.ensures l)

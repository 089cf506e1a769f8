use Rattle.text.specs.Scan.{bytes}
use Rattle.line.specs.Line.{format_means, on_number}
use Rattle.line.proofs.format_of.Goals as goal

pub returns-in_err-pages : goal.returns-in_err-pages
unfolding bytes format_means on_number
returns-in_err-pages c l = rw (c.from_residual.ensures, ← c.in_err-pages.ensures)

pub returns-in_err-slots : goal.returns-in_err-slots
unfolding bytes format_means on_number
returns-in_err-slots c l = rw (c.from_residual-in_err-slots.ensures, ← c.in_ok-pages.ensures, ← c.in_err-slots.ensures)

pub returns : goal.returns
unfolding bytes format_means on_number
returns c l = rw (← c.in_ok-pages.ensures, ← c.in_ok-slots.ensures) (c.sizes_of.ensures l)

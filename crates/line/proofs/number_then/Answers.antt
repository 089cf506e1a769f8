use Rattle.text.specs.ScanLaws.{stripped, not_stripped}
use Rattle.line.specs.Line.{number_then}
use Rattle.line.proofs.number_then.Goals as goal

pub returns-in_err-value : goal.returns-in_err-value
unfolding number_then
returns-in_err-value c = rw (c.from_residual.ensures, ← c.in_err-value.ensures)

pub returns-in_err-rest : goal.returns-in_err-rest
unfolding number_then
returns-in_err-rest c = rw (c.from_residual-in_err-rest.ensures, ← c.in_ok-value.ensures, not_stripped _ _ c.in_err-rest.ensures.cases)

pub returns : goal.returns
unfolding number_then
returns c = rw (← c.in_ok-value.ensures, stripped _ _ c.in_ok-rest.ensures.cases)

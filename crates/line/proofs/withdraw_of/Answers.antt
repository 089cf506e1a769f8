use Rattle.line.specs.Line.{said, withdraw_means, on_number}
use Rattle.line.proofs.withdraw_of.Goals as goal

pub returns-in_err-page : goal.returns-in_err-page
unfolding withdraw_means on_number
returns-in_err-page c l = rw (c.from_residual.ensures, ← c.in_err-page.ensures)

pub returns : goal.returns
unfolding said withdraw_means on_number
returns c l = rw (← c.in_ok-page.ensures) (c.ended.ensures l)

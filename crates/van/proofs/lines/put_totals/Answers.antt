use Rattle.text.specs.PutsLaws.{puts_next}
use Rattle.fleet.specs.Page.{totals_line}
use Rattle.van.proofs.lines.put_totals.Goals as goal

pub returns : goal.returns
unfolding totals_line
returns c = puts_next _ _ _ _ _ (puts_next _ _ _ _ _ c.put_blanks.ensures c.put_figures.ensures) c.put.ensures

use Rattle.text.specs.PutsLaws.{puts_next}
use Rattle.fleet.specs.Page.{entry_text}
use Rattle.van.proofs.lines.put_entry.Goals as goal

pub returns-in-Ok : goal.returns-in-Ok
unfolding entry_text
returns-in-Ok c = rw c.in-Ok.is c.put_figures.ensures

pub returns-in-Err : goal.returns-in-Err
unfolding entry_text
returns-in-Err c = rw c.in-Err.is (puts_next _ _ _ _ _ c.put_column.ensures c.put_blanks.ensures)

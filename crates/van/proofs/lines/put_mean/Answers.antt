-- The pieces put one behind the other are the line.
use Rattle.text.specs.PutsLaws.{puts_next}
use Rattle.van.specs.Columns.{mean_line_lem}
use Rattle.van.proofs.lines.put_mean.Goals as goal

pub returns : goal.returns
returns c =
    rw (mean_line_lem _ _ _ _ c.mean_whole.ensures c.mean_remainder.ensures) at
    (puts_next _ _ _ _ _ c.put_blanks.ensures
    (puts_next _ _ _ _ _ c.put_column.ensures (puts_next _ _ _ _ _ c.put_column-2.ensures (puts_next _ _ _ _ _ c.put_blanks-2.ensures c.put.ensures))))

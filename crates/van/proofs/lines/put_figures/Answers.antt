use Rattle.text.specs.PutsLaws.{puts_next}
use Rattle.fleet.specs.Page.{figures_text}
use Rattle.van.proofs.lines.put_figures.Goals as goal

pub returns : goal.returns
unfolding figures_text
returns c =
    puts_next _ _ _ _ _ c.put_column.ensures
    (puts_next _ _ _ _ _ c.put_column-2.ensures (puts_next _ _ _ _ _ c.put_column-3.ensures c.put_column-4.ensures))

use Rattle.text.specs.PutsLaws.{puts_next}
use Rattle.fleet.specs.Page.{volume_line}
use Rattle.van.proofs.lines.put_volume.Goals as goal

pub returns : goal.returns
unfolding volume_line
returns c = puts_next _ _ _ _ _ (puts_next _ _ _ _ _ c.put_column.ensures c.put_entry.ensures) c.put.ensures

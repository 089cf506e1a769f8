use Rattle.text.specs.PutsLaws.{puts_next}
use Rattle.van.specs.Tally.{end_text}
use Rattle.van.proofs.lines.put_end.Goals as goal

pub returns : goal.returns
unfolding end_text
returns c = puts_next _ _ _ _ _ c.put_totals.ensures c.put_mean.ensures

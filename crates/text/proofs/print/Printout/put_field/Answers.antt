use Rattle.text.specs.PutsLaws.{puts_next}
use Rattle.text.proofs.print.Printout.put_field.Goals as goal

pub returns : goal.returns
returns c = puts_next _ _ _ _ _ c.put_text.ensures c.put_number.ensures

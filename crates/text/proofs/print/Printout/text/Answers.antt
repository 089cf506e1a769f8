use Rattle.bounded.specs.Fronts.{front_lent}
use Rattle.text.specs.Print.{shown}
use Rattle.text.proofs.print.Printout.text.Goals as goal

pub returns : goal.returns
unfolding shown
returns c = front_lent _ _ c.args.self.now.out.now c.min-n.ensures

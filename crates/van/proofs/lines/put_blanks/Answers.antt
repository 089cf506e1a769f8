use Rattle.std.proofs.lemmas.List.{replicate_more}
use Rattle.text.specs.PutsLaws.{puts_none, puts_next}
use Rattle.fleet.specs.Page.{blanks}
use Rattle.van.proofs.lines.put_blanks.Goals as goal

pub loop-init : goal.loop-init
unfolding blanks
loop-init c = puts_none c.args.out.now

pub loop-preserved : goal.loop-preserved
unfolding blanks
loop-preserved c = rw replicate_more at (puts_next _ _ _ _ _ c.loop.invariant c.put.ensures)

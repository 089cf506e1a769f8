use native.Mathlib.Omega.{arith}
use Rattle.text.specs.PutsLaws.{puts_none, puts_more}
use Rattle.text.proofs.print.Printout.put_text.Goals as goal

pub loop-byte-init : goal.loop-byte-init
loop-byte-init c = puts_none c.args.self.now

pub loop-byte-preserved : goal.loop-byte-preserved
loop-byte-preserved c = puts_more _ _ _ c.args.text.now c.loop-byte.byte-index (omega arith) c.loop-byte.invariant c.put.ensures

use Rattle.std.proofs.Common.{arith}
use mathlib.Core.Path.{refl}
use Rattle.ledger.specs.Fills.{fills_of}
use Rattle.recorded.specs.HeldLaws.{page_ready}
use Rattle.cuts.proofs.run.tests.keeps_the_byte_of_a_script.Goals as goal

pub invariant_of-desk : goal.invariant_of-desk
unfolding fills_of
invariant_of-desk g c = record { ready = page_ready _ refl refl refl (omega arith) (omega arith) }

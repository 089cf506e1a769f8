use Rattle.std.proofs.Common.{arith}
use mathlib.Core.Path.{refl}
use Rattle.ledger.specs.Fills.{fills_of}
use Rattle.recorded.specs.HeldLaws.{page_ready}
use Rattle.recorded.proofs.tests.keeps_the_byte_of_a_ring.Goals as goal

pub invariant_of-desk : goal.invariant_of-desk
unfolding fills_of
invariant_of-desk g c = record { ready = page_ready _ refl refl refl (omega arith) (omega arith) }

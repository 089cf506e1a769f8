use native.Mathlib.Nat.{add-sub_cancel_left}
use native.Mathlib.Omega.{arith}
use lib.ListN.{length-take, length-drop}
use Rattle.bounded.specs.Parts.{part}
use Rattle.record.specs.Slot.{bytes_at}
use Rattle.record.proofs.flash.bytes_of.Goals as goal

pub returns-clause-these : goal.returns-clause-these
unfolding bytes_at part
returns-clause-these c = rw add-sub_cancel_left

pub returns-clause-as_many : goal.returns-clause-as_many
returns-clause-as_many c = simp (length-take, length-drop) (omega (arith, c.requires))

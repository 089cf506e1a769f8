-- The invariant: with the listed slots up to the last blanked that are still to come, the flash is as it shall be.
use mathlib.Core.Path.{◌≡◌}
use lib.ListN.{length}
use Rattle.record.specs.Flash.{flash, apply_all}
use Rattle.rules.specs.Erase.{erase_steps}
use Rattle.atomicity.specs.Run.{done_of}
use Rattle.everywhere.specs.Cuts.{up_to}
use Rattle.cutpoint.specs.JudgedLaws.{rest_blanked}
use Rattle.cutpoint.proofs.erase.blank_up_to.Given as goal

abbrev pub invariant-loop-slot : goal.invariant-loop-slot
invariant-loop-slot l = (rest_blanked l.width l.list l.last l.slot-index (flash l.words l.contents) ≡ apply_all l.width (flash l.initial.words l.initial.contents) (done_of (up_to l.list l.last) 0 (erase_steps l.list)))
    × (length l.words ≡ length l.initial.words)
    × (length l.contents ≡ length l.initial.contents)

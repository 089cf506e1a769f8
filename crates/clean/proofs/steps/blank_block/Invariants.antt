-- The invariant: the flash is as it was with the block's slots below k blanked.
use mathlib.Core.Path.{◌≡◌}
use lib.ListN.{length}
use Rattle.record.specs.Flash.{flash}
use Rattle.clean.specs.BlockLaws.{blanked_up_to}
use Rattle.clean.proofs.steps.blank_block.Given as goal

abbrev pub invariant-loop-k : goal.invariant-loop-k
invariant-loop-k l = (flash l.words l.contents ≡ blanked_up_to l.sizes.width (flash l.initial.words l.initial.contents) l.fn.block l.k)
    × (length l.words ≡ length l.initial.words)
    × (length l.contents ≡ length l.initial.contents)

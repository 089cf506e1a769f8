-- The invariant: of the blocks that are seen at the places below i, the first `looked` left out, this is the largest size.
use mathlib.Core.Path.{◌≡◌}
use Rattle.bounded.specs.Below.{max_below}
use Rattle.sizes.specs.Blocks.{named}
use Rattle.pick.specs.Picking.{unseen_by}
use Rattle.pick.proofs.round.largest_unseen.Given as goal

abbrev pub invariant-loop-i : goal.invariant-loop-i
invariant-loop-i l = l.largest ≡ max_below l.i (unseen_by l.slots (named l.starts l.block) l.fn.looked)

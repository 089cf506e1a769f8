-- The invariant: no mark stands, and this is the best of the first i blocks that are seen.
use mathlib.Core.Path.{◌≡◌}
use Rattle.sizes.specs.Blocks.{named, block_at}
use Rattle.judge.specs.Marked.{NoMarks}
use Rattle.judge.specs.Evidence.{volume_of}
use Rattle.pick.specs.Picking.{frees_by, best_by}
use Rattle.pick.proofs.look.best_found.Given as goal

abbrev pub invariant-loop-i : goal.invariant-loop-i
invariant-loop-i l = NoMarks l.marks
    × (l.best ≡ best_by (named l.starts l.block) l.i (λ b. frees_by l.evidence.table.sizes (volume_of l.evidence) l.evidence.table.found.now (block_at l.evidence.table.sizes.slots b)))

-- The loop has found each entry before this one in range and new, and marked it; an entry that is not settles the answer.
use mathlib.Core.Path.{◌≡◌}
use mathlib.Core.Bool.{true}
use Rattle.bounded.specs.Below.{all_below}
use Rattle.bounded.specs.Tabulate.{tabulate}
use Rattle.sizes.specs.Lists.{ranged_at, new_at}
use Rattle.sizes.specs.Marks.{mark_of}
use Rattle.sizes.proofs.list_ok.Given as goal

abbrev pub invariant-loop-entry : goal.invariant-loop-entry
invariant-loop-entry l = (all_below l.entry-index (ranged_at l.bound l.list) ≡ true) × (all_below l.entry-index (new_at l.list) ≡ true) × (l.marks ≡ tabulate 1024 (mark_of l.list l.entry-index))

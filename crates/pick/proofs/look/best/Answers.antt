-- The table is of the volume, and judging by what was found is the rule's permission.
use mathlib.Core.Path.{◌∙◌}
use Rattle.pick.specs.PickingLaws.{best_by_found}
use Rattle.pick.proofs.look.best.Goals as goal

pub returns : goal.returns
returns c = let t = c.prepare-table.ensures in
    rw (t.same_sizes, t.same_words, t.same_state) at (c.best_found.ensures ∙ best_by_found _ _ _ _ t.all_found)

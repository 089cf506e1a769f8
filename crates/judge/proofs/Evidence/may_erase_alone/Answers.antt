-- The slot's mark is the only one that stands while it is judged, and none does after it.
use native.Mathlib.Omega.{arith}
use mathlib.Core.Path.{◌∙◌}
use Rattle.rules.specs.Permission.{may_erase_alone}
use Rattle.judge.specs.Marked.{alone_marked, alone_cleared}
use Rattle.judge.specs.JudgeLaws.{by_list}
use Rattle.judge.proofs.Evidence.may_erase_alone.Goals as goal

pub returns : goal.returns
unfolding may_erase_alone
returns c = let p = c.requires in
    let a = c.args in
    let few = a.self.now.table.within.slots_few in
    record { value = c.may_erase_from-may.ensures ∙ by_list _ _ (alone_marked a.marks.now a.slot p.no_marks (omega arith)); no_marks_2 = alone_cleared a.marks.now a.slot p.no_marks (omega arith) }

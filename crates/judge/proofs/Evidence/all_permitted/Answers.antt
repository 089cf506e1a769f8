use native.Mathlib.Omega.{arith}
use mathlib.Core.Path.{◌≡◌, sym, ◌∙◌}
use lib.ListN.{length}
use Rattle.bounded.specs.BelowLaws.{all_zero, all_more, all_fails}
use Rattle.bounded.specs.Choice.{told}
use Rattle.rules.specs.Permission.{may_erase_all}
use Rattle.judge.specs.JudgeLaws.{by_list}
use Rattle.judge.proofs.Evidence.all_permitted.Goals as goal

pub loop-slot-init : goal.loop-slot-init
loop-slot-init c = all_zero _

pub may_erase_from-requires : goal.may_erase_from-requires
may_erase_from-requires c = let p = c.requires in p.listed.in_range_lem _ c.loop-slot-test.true

pub returns-then-not-may_erase_from : goal.returns-then-not-may_erase_from
unfolding may_erase_all
returns-then-not-may_erase_from c = let judged = c.may_erase_from.ensures ∙ by_list _ _ c.requires.marks_value in
    sym (all_fails _ _ c.loop-slot.slot-index c.loop-slot-test.true (told judged c.if-not-may_erase_from.true))

pub loop-slot-preserved : goal.loop-slot-preserved
loop-slot-preserved c = let judged = c.may_erase_from.ensures ∙ by_list _ _ c.requires.marks_value in
    all_more _ _ c.loop-slot.invariant (told judged c.if-not-may_erase_from.false)

pub returns : goal.returns
unfolding may_erase_all
returns c = let l = c.loop-slot in
    let e : l.slot-index ≡ length c.args.list.now = omega arith in
    sym (rw e at l.invariant)

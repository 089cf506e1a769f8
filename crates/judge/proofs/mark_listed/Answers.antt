use mathlib.Core.Bool.{Bool, false, true}
use native.Mathlib.Omega.{arith}
use mathlib.Core.Path.{◌≡◌, ap, ◌∙◌}
use lib.ListN.{length, length-set, length-replicate}
use Rattle.judge.specs.Marked.{listed_up_to, list_none_marked, list_more_marked, list_all_marked}
use Rattle.judge.proofs.mark_listed.Goals as goal

pub loop-slot-init : goal.loop-slot-init
loop-slot-init c = (length-replicate {A = Bool} 1024 false, list_none_marked _ 1024)

pub overflow_cast-marks : goal.overflow_cast-marks
overflow_cast-marks c = omega (arith, c.requires c.loop-slot.slot-index c.loop-slot-test.true)

pub bounds-marks-slot : goal.bounds-marks-slot
bounds-marks-slot c = c.requires c.loop-slot.slot-index c.loop-slot-test.true

pub loop-slot-preserved : goal.loop-slot-preserved
loop-slot-preserved c = let l = c.loop-slot in
    let b = c.requires l.slot-index c.loop-slot-test.true in
    (length-set l.marks _ true ∙ l.invariant.0, list_more_marked _ l.marks l.slot-index (omega arith) l.invariant.1)

pub returns : goal.returns
returns c = let l = c.loop-slot in
    let list = c.args.list.now in
    let e : l.slot-index ≡ length list = omega arith in
    l.invariant.1 ∙ ap (listed_up_to list) e ∙ list_all_marked list

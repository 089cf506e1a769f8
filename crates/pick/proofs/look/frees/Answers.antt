use native.Mathlib.Omega.{arith}
use mathlib.Core.Path.{◌≡◌, sym, ap, ◌∙◌}
use Rattle.judge.specs.Evidence.{volume_of}
use Rattle.pick.specs.Picking.{alone_by}
use Rattle.pick.specs.PickingLaws.{freed_below, freed_none, freed_more, freed_stays, freed_all}
use Rattle.pick.proofs.look.frees.Goals as goal
use Rattle.pick.proofs.look.frees.Goals.{then-may_erase_alone, else-may_erase_alone}

pub loop-slot-init : goal.loop-slot-init
loop-slot-init c = let p = c.requires in
    (omega arith, p.no_marks, sym (freed_none _ _ _ _))

pub loop-slot-preserved : goal.loop-slot-preserved
unfolding alone_by
loop-slot-preserved c = let l = c.loop-slot in
    let block = c.args.block in
    let e = c.args.evidence.now in
    let found = e.table.found.now in
    let h = c.loop-slot-test.true in
    let judged : c.may_erase_alone.result ≡ alone_by e.table.sizes (volume_of e) found l.slot = c.may_erase_alone.ensures.value in
    let none = c.may_erase_alone.ensures.no_marks_2 in
    elim c.if-may_erase_alone.branch [
      | then-may_erase_alone w ↦ (omega arith, none, w.count-is ∙ freed_more e.table.sizes (volume_of e) found block l.slot l.auto.slot h l.invariant.2 (sym judged ∙ w.if-may_erase_alone.true))
      | else-may_erase_alone w ↦ (omega arith, none, w.count-is ∙ freed_stays e.table.sizes (volume_of e) found block l.slot l.auto.slot h l.invariant.2 (sym judged ∙ w.if-may_erase_alone.false))
    ]

pub returns : goal.returns
returns c = let l = c.loop-slot in
    let e : l.slot ≡ c.args.block.end = omega arith in
    record { value = l.invariant.2 ∙ ap (freed_below _ _ _ _) e ∙ freed_all _ _ _ _ c.requires.block_in; no_marks_2 = l.invariant.1 }

use Prim.Native.Nat.{◌+◌, ◌<◌}
use native.Mathlib.Omega.{arith}
use mathlib.Core.Path.{refl, sym, ap, ap₂, ◌∙◌}
use lib.ListN.{length}
use Rattle.record.specs.Flash.{flash}
use Rattle.cutpoint.specs.JudgedLaws.{rest_blanked, rest_all, rest_none, rest_stays, rest_blanks}
use Rattle.cutpoint.proofs.erase.blank_up_to.Goals as goal
use Rattle.cutpoint.proofs.erase.blank_up_to.Goals.{then-slot-last, else-slot-last}

pub loop-slot-init : goal.loop-slot-init
loop-slot-init c = (rest_all _ _ _ _, refl, refl)

pub blank_slot-requires : goal.blank_slot-requires
blank_slot-requires c = let l = c.loop-slot in
    let p = c.requires in
    let h : l.slot-index < length c.args.list.now = omega arith in
    let a = p.listed_in.words_in l.slot-index h in
    let b = p.listed_in.contents_in l.slot-index h in
    record { layout_in_bounds = omega arith; width_in_bounds = omega arith; width_bound = p.width_bound }

pub loop-slot-preserved : goal.loop-slot-preserved
loop-slot-preserved c = let l = c.loop-slot in
    let a = c.args in
    let h : l.slot-index < length c.args.list.now = omega arith in
    let rest = rest_blanked a.width a.list.now a.last (l.slot-index + 1) in
    elim c.if-slot-last.branch [
      | then-slot-last w ↦ (
        ap rest (ap₂ flash w.words-is w.contents-is ∙ w.blank_slot.ensures) ∙ sym (rest_blanks _ _ _ l.slot-index _ h w.if-slot-last.true) ∙ l.invariant.0,
        ap length w.words-is ∙ w.blank_slot.auto.words ∙ l.invariant.1,
        ap length w.contents-is ∙ w.blank_slot.auto.contents ∙ l.invariant.2,
      )
      | else-slot-last w ↦ (
        ap rest (ap₂ flash w.words-is w.contents-is) ∙ sym (rest_stays _ _ _ l.slot-index _ h w.if-slot-last.false) ∙ l.invariant.0,
        ap length w.words-is ∙ l.invariant.1,
        ap length w.contents-is ∙ l.invariant.2,
      )
    ]

pub shape_of-words : goal.shape_of-words
shape_of-words c = c.loop-slot.invariant.1

pub shape_of-contents : goal.shape_of-contents
shape_of-contents c = c.loop-slot.invariant.2

pub returns : goal.returns
returns c = let l = c.loop-slot in sym (rest_none _ _ _ l.slot-index _ (omega arith)) ∙ l.invariant.0

use Prim.Native.Nat.{ℕ, ◌<◌}
use native.Mathlib.Omega.{arith}
use mathlib.Core.Path.{◌≡◌, refl, ap, ap₂, ◌∙◌}
use lib.ListN.{length}
use Rattle.record.specs.Flash.{Flash, Step, apply_in, flash}
use Rattle.collect.specs.EraseLaws.{blanked, blanked_none, blanked_more, blanked_all}
use Rattle.collect.proofs.blank_listed.Goals as goal

pub loop-slot-init : goal.loop-slot-init
loop-slot-init g c = (λ slots k. blanked_none c.args.layout c.args.width _ _, refl, refl)

pub blank_slot-requires : goal.blank_slot-requires
blank_slot-requires g c = let p = c.requires.listed_in in
    let l = c.loop-slot in
    let count = p.1.as_many in
    let h : l.slot-index < length p.0 = omega arith in
    let e = p.1.each l.slot-index c.slot-item.result c.into.result c.loop-slot-test.true c.slot-item.is c.into.ensures in
    let a = rw (← e) at (p.2.words_in l.slot-index h) in
    let b = rw (← e) at (p.2.contents_in l.slot-index h) in
    record { layout_in_bounds = rw l.invariant.1 a; width_in_bounds = rw l.invariant.2 b; width_bound = c.requires.width_bound }

pub loop-slot-preserved : goal.loop-slot-preserved
loop-slot-preserved g c = let s = c.blank_slot in
    let l = c.loop-slot in
    let a = c.args in (
      λ slots k.
          let count = k.as_many in
          let h : l.slot-index < length slots = omega arith in
          let e = k.each l.slot-index c.slot-item.result c.into.result c.loop-slot-test.true c.slot-item.is c.into.ensures in
          s.ensures
          ∙ ap₂ (λ (f : Flash) (n : ℕ). apply_in a.layout a.width f (Step.Blank n)) (l.invariant.0 slots k) e
          ∙ blanked_more a.layout a.width (flash a.words.now a.contents.now) slots l.slot-index h,
      s.auto.words ∙ l.invariant.1,
      s.auto.contents ∙ l.invariant.2,
    )

pub shape_of-words : goal.shape_of-words
shape_of-words g c = c.loop-slot.invariant.1

pub shape_of-contents : goal.shape_of-contents
shape_of-contents g c = c.loop-slot.invariant.2

pub returns : goal.returns
returns g c = λ slots k.
    let l = c.loop-slot in
    let a = c.args in
    let count = k.as_many in
    let e : l.slot-index ≡ length slots = omega arith in
    l.invariant.0 slots k
    ∙ ap (blanked a.layout a.width (flash a.words.now a.contents.now) slots) e
    ∙ blanked_all a.layout a.width (flash a.words.now a.contents.now) slots

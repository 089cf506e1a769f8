use Prim.Native.Nat.{◌<◌}
use native.Mathlib.Omega.{arith}
use lib.ListN.{length}
use mathlib.Core.Path.{refl, sym, ◌∙◌, subst}
use Rattle.sizes.specs.declared.Layout.TheVariants.{FiveWords}
use Rattle.record.specs.Flash.{Flash, flash}
use Rattle.collect.specs.EraseLaws.{ListedIn}
use Rattle.dispatch.specs.Dispatch.{lost}
use Rattle.cutpoint.specs.JudgedLaws.{lost_same, count_fits, count_one, tallied_all_lem, tallied_none, cut_is, tallied_more}
use Rattle.cutpoint.proofs.erase.Before.cut_each_slot.Goals as goal

pub loop-slot-init : goal.loop-slot-init
loop-slot-init c = (omega arith, tallied_all_lem _ _ _ _ _ _ _, refl, refl, refl)

pub copy_flash-requires : goal.copy_flash-requires
copy_flash-requires c = let l = c.loop-slot in
    let p = c.requires in
    record { words_len = l.invariant.2 ∙ p.words_len; contents_len = l.invariant.3 ∙ p.contents_len }

pub blank_up_to-requires : goal.blank_up_to-requires
blank_up_to-requires c = let a = c.args in
    let e = c.copy_flash.ensures in
    record { listed_in = subst (λ (f : Flash). ListedIn FiveWords a.self.now.sizes.width f.words f.contents a.list.now) (sym e) c.requires.listed_in; width_bound = a.self.now.narrow }

pub comes_back-requires : goal.comes_back-requires
comes_back-requires c = c.args.self.now.filled_all

pub count-so_far-requires : goal.count-so_far-requires
count-so_far-requires c = let l = c.loop-slot in
    count_fits l.so_far _ l.slot-index _ (omega arith) l.invariant.0 c.requires.list_bound

pub loop-slot-preserved : goal.loop-slot-preserved
loop-slot-preserved c = let r = c.comes_back in
    let l = c.loop-slot in
    let inside : l.slot-index < length c.args.list.now = omega arith in
    let one = count_one l.so_far r.result c.count-so_far.ensures in (
      omega arith,
      tallied_more _ _ _ _ _ _ l.slot-index l.so_far inside
          (cut_is _ _ _ _ _ _ _ (flash c.blank_up_to.new.words c.blank_up_to.new.contents) _ (lost l.state)
          r.ensures c.blank_up_to.ensures c.copy_flash.ensures (lost_same l.state _ l.invariant.4))
          c.count-so_far.ensures
          ∙ l.invariant.1,
      c.blank_up_to.auto.words ∙ c.copy_flash.auto.words ∙ l.invariant.2,
      c.blank_up_to.auto.contents ∙ c.copy_flash.auto.contents ∙ l.invariant.3,
      r.auto.state ∙ l.invariant.4,
    )

pub shape_of-words : goal.shape_of-words
shape_of-words c = c.loop-slot.invariant.2

pub shape_of-contents : goal.shape_of-contents
shape_of-contents c = c.loop-slot.invariant.3

pub shape_of-state : goal.shape_of-state
shape_of-state c = c.loop-slot.invariant.4

pub returns : goal.returns
returns c = let l = c.loop-slot in tallied_none _ _ _ _ _ _ l.slot-index l.so_far (omega arith) ∙ l.invariant.1

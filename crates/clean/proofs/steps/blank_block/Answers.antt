use native.Mathlib.Omega.{arith}
use mathlib.Core.Path.{◌≡◌, refl, ap, ◌∙◌}
use Rattle.bounded.specs.PartsLaws.{part_inside}
use Rattle.sizes.proofs.BlocksLaws.{inside_block}
use Rattle.record.specs.Flash.{Flash, Step, apply, flash}
use Rattle.clean.specs.BlockLaws.{blanked_up_to, none_blanked, one_blanked, all_blanked}
use Rattle.clean.proofs.steps.blank_block.Goals as goal

pub loop-k-init : goal.loop-k-init
loop-k-init c = let a = c.args in (none_blanked a.sizes.width (flash a.words.now a.contents.now) a.block, refl, refl)

pub blank_slot-requires : goal.blank_slot-requires
blank_slot-requires c = let p = c.requires in
    let a = c.args in
    let l = c.loop-k in
    let b = p.block_in.inside in
    let i = part_inside a.sizes.width a.sizes.slots l.k (omega arith) in
    record { layout_in_bounds = omega arith; width_in_bounds = omega arith; width_bound = p.width_bound }

pub loop-k-preserved : goal.loop-k-preserved
loop-k-preserved c = let s = c.blank_slot in
    let l = c.loop-k in
    let a = c.args in (
      s.ensures
          ∙ ap (λ (f : Flash). apply a.sizes.width f (Step.Blank l.k)) l.invariant.0
          ∙ one_blanked a.sizes.width (flash a.words.now a.contents.now) a.block l.k (inside_block a.block l.k (omega arith) c.loop-k-test.true),
      s.auto.words ∙ l.invariant.1,
      s.auto.contents ∙ l.invariant.2,
    )

pub shape_of-words : goal.shape_of-words
shape_of-words c = c.loop-k.invariant.1

pub shape_of-contents : goal.shape_of-contents
shape_of-contents c = c.loop-k.invariant.2

pub returns : goal.returns
returns c = let l = c.loop-k in
    let a = c.args in
    let f = flash a.words.now a.contents.now in
    let e : l.k ≡ a.block.end = omega arith in
    l.invariant.0 ∙ ap (blanked_up_to a.sizes.width f a.block) e ∙ all_blanked a.sizes.width f a.block a.sizes.slots c.requires.block_in

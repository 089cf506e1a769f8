use Prim.Native.Nat.{ℕ, ◌+◌, ◌/◌}
use native.Mathlib.Omega.{arith}
use mathlib.Core.Path.{refl, sym, ap, ◌∙◌}
use mathlib.Core.List.{List}
use lib.ListN.{length}
use Rattle.upkeep.specs.Doubtful.{absent_in}
use Rattle.doubtful.specs.Filled.{blanked_words}
use Rattle.doubtful.specs.FilledLaws.{rest_blanked, rest_all, rest_none, rest_stays, rest_blanks}
use Rattle.doubtful.proofs.filling.fill.Goals as goal
use Rattle.doubtful.proofs.filling.fill.Goals.{then-digits-ne0, else-digits-ne0}

pub copy_contents-requires : goal.copy_contents-requires
copy_contents-requires c = c.requires.filled_len

pub loop-slot-init : goal.loop-slot-init
loop-slot-init c = let a = c.args in
    (refl, rest_all _ a.m _ ∙ ap (λ (w : List ℕ). blanked_words w (absent_in a.list.now a.m)) c.copy_contents.ensures)

pub blank_slot-requires : goal.blank_slot-requires
blank_slot-requires c = let l = c.loop-slot in
    let p = c.requires in
    let b = p.by_index l.slot-index c.loop-slot-test.true in
    let k = c.copy_contents.auto.to in
    omega arith

pub loop-slot-preserved : goal.loop-slot-preserved
loop-slot-preserved c = let l = c.loop-slot in
    let list = c.args.list.now in
    let inside = c.loop-slot-test.true in
    elim c.if-digits-ne0.branch [
      | then-digits-ne0 w ↦ (ap length w.filled-is ∙ w.blank_slot.auto.filled ∙ l.invariant.0, ap (rest_blanked list (l.slot-index + 1) (l.digits / 2)) (w.filled-is ∙ w.blank_slot.ensures) ∙ sym (rest_blanks list l.slot-index l.digits l.filled inside w.if-digits-ne0.true) ∙ l.invariant.1)
      | else-digits-ne0 w ↦ (ap length w.filled-is ∙ l.invariant.0, ap (rest_blanked list (l.slot-index + 1) (l.digits / 2)) w.filled-is ∙ sym (rest_stays list l.slot-index l.digits l.filled inside w.if-digits-ne0.false) ∙ l.invariant.1)
    ]

pub shape_of-filled : goal.shape_of-filled
shape_of-filled c = c.loop-slot.invariant.0 ∙ c.copy_contents.auto.to

pub returns : goal.returns
returns c = let l = c.loop-slot in
    sym (rest_none _ l.slot-index l.digits l.filled c.loop-slot-test.false) ∙ l.invariant.1

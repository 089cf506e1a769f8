-- A slot that passes is noted behind those below it, and one that does not adds nothing to the list.
use Rattle.std.proofs.Common.{ℕ, ap, arith, sym, ◌∙◌, length-append, List, ◌∷◌, [], ◌++◌}
use Rattle.bounded.specs.Passing.{list_more, list_stays}
use Rattle.bounded.specs.Members.{list_none}
use Rattle.noted.specs.Noted.{noted}
use Rattle.noted.proofs.Slots.note_passing.Goals as goal
use Rattle.noted.proofs.Slots.note_passing.Goals.{then-passes, else-passes}

pub loop-k-init : goal.loop-k-init
loop-k-init g c = (omega arith, λ f below agrees. sym (list_none f c.args.from below))

pub loop-k-preserved : goal.loop-k-preserved
loop-k-preserved g c = elim c.if-passes.branch [
  | then-passes w ↦ let i = c.loop-k.invariant in (
    rw (w.self-is, w.push.ensures) (let s = length-append (noted c.loop-k.self) (c.loop-k.k ∷ []) in omega arith),
    λ f below agrees. let passes = sym (agrees c.loop-k.k _ (omega arith) c.loop-k-test.true c.passes.ensures) ∙ w.if-passes.true in
        ap noted w.self-is ∙ w.push.ensures ∙ ap (λ (l : List ℕ). l ++ (c.loop-k.k ∷ [])) (i.1 f below agrees) ∙ sym (list_more f c.loop-k.k passes),
  )
  | else-passes w ↦ let i = c.loop-k.invariant in (
    rw w.self-is (omega arith),
    λ f below agrees. let fails = sym (agrees c.loop-k.k _ (omega arith) c.loop-k-test.true c.passes.ensures) ∙ w.if-passes.false in
        ap noted w.self-is ∙ i.1 f below agrees ∙ sym (list_stays f c.loop-k.k fails),
  )
]

use native.Mathlib.Omega.{arith}
use mathlib.Core.Path.{refl, ◌∙◌}
use Rattle.doubtful.specs.Ends.{noted_none, noted_stays, noted_recovers, noted_every}
use Rattle.doubtful.proofs.Doubted.recover_fillings.Goals as goal
use Rattle.doubtful.proofs.Doubted.recover_fillings.Goals.{then-recover_filling, else-recover_filling}

pub count_fillings-total-requires : goal.count_fillings-total-requires
count_fillings-total-requires c = c.args.self.now.fillable.few

pub loop-m-init : goal.loop-m-init
loop-m-init c = (omega arith, refl, refl, refl, noted_none _ _ _ _ _)

pub recover_filling-requires : goal.recover_filling-requires
recover_filling-requires c = let p = c.requires in
    let l = c.loop-m in
    record { filled_len = l.invariant.1 ∙ p.filled_len; state_len = l.invariant.2 ∙ p.state_len; out_len = l.invariant.3 ∙ p.out_len }

pub loop-m-preserved : goal.loop-m-preserved
loop-m-preserved c = let l = c.loop-m in
    let f = c.recover_filling in
    let filled = f.auto.filled ∙ l.invariant.1 in
    let state = f.auto.state ∙ l.invariant.2 in
    let out = f.auto.out ∙ l.invariant.3 in
    elim c.if-recover_filling.branch [
      | then-recover_filling w ↦ let k = w.count-is in (omega arith, filled, state, out, noted_recovers _ _ _ _ _ l.m l.count l.out l.invariant.4 f.ensures.value f.ensures.out_after w.if-recover_filling.true w.count-is)
      | else-recover_filling w ↦ let k = w.count-is in (omega arith, filled, state, out, noted_stays _ _ _ _ _ l.m l.count l.out l.invariant.4 f.ensures.value f.ensures.out_after w.if-recover_filling.false w.count-is)
    ]

pub shape_of-filled : goal.shape_of-filled
shape_of-filled c = c.loop-m.invariant.1

pub shape_of-state : goal.shape_of-state
shape_of-state c = c.loop-m.invariant.2

pub shape_of-out : goal.shape_of-out
shape_of-out c = c.loop-m.invariant.3

pub returns : goal.returns
returns c = let l = c.loop-m in
    let a = c.args in
    let t = c.count_fillings-total.ensures in
    let every = noted_every _ _ _ _ a.out.now l.m l.count l.out (omega arith) l.invariant.4 in
    record { value = every.0; out_unchanged = every.1.0; out_after = every.1.1 }

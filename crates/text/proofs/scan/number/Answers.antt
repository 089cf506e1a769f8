use Prim.Native.Nat.{◌-◌}
use native.Mathlib.Omega.{arith}
use mathlib.Core.Path.{◌≡◌, sym, ◌∙◌}
use lib.ListN.{length}
use Rattle.std.proofs.Common.{take_all, length-drop}
use Rattle.text.specs.Scan.{number, max_number}
use Rattle.text.specs.ScanLaws.{number_ended, number_none, too_high, one_more}
use Rattle.text.proofs.scan.number.Goals as goal
use Rattle.text.proofs.scan.number.Goals.{in_default, in_default-2, in_default-3}

pub loop-rest-init : goal.loop-rest-init
unfolding number
loop-rest-init c = let text = c.args.text.now in
    let z : length text - length text ≡ 0 = omega arith in (omega arith, omega arith, rw z)

pub returns-in_err-value : goal.returns-in_err-value
unfolding max_number
returns-in_err-value c = let l = c.loop-rest in rw c.from_residual.ensures (sym (too_high c.args.text.now l.rest.now l.value l.invariant.1 l.invariant.2 (omega arith, omega arith, omega arith) (omega arith)))

pub loop-rest-preserved : goal.loop-rest-preserved
unfolding max_number
loop-rest-preserved c = let l = c.loop-rest in
    let k = rw c.in_ok-value.was at c.grown.ensures in
    let h = one_more c.args.text.now l.rest.now l.value l.invariant.1 l.invariant.2 (omega arith, omega arith, omega arith) _ c.in_ok-value.value (take_all _ _ (omega (arith, length-drop 1 l.rest.now))) (omega arith) in
    (omega arith, h.0, h.1)

pub returns-then-rest-text : goal.returns-then-rest-text
returns-then-rest-text c =
    let l = c.loop-rest in
    sym (l.invariant.2 ∙ number_none (length c.args.text.now - length l.rest.now) l.value l.rest.now (omega arith)
    (elim c.if-rest-lt1.branch [ in_default w ↦ λ h. omega arith | in_default-2 w ↦ λ h. omega arith | in_default-3 w ↦ λ h. omega arith ]))

pub returns : goal.returns
returns c = let l = c.loop-rest in
    sym (l.invariant.2 ∙ number_ended (length c.args.text.now - length l.rest.now) l.value l.rest.now (omega arith) l.invariant.0
    (elim c.if-rest-lt1.branch [ in_default w ↦ λ h. omega arith | in_default-2 w ↦ λ h. omega arith | in_default-3 w ↦ λ h. omega arith ]))

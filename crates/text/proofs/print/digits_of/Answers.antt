use native.Mathlib.Omega.{arith}
use mathlib.Core.Path.{◌≡◌, sym, ◌∙◌}
use Rattle.text.specs.PrintLaws.{digits_none, digits_first, digits_next, digits_all}
use Rattle.text.proofs.print.digits_of.Goals as goal

pub loop-i-init : goal.loop-i-init
loop-i-init c = digits_none c.args.digits.now c.args.n

pub returns-then-rest-lt10 : goal.returns-then-rest-lt10
returns-then-rest-lt10 c = let l = c.loop-i in
    sym (l.invariant ∙ digits_first l.digits l.i l.rest (omega arith) (omega arith) (omega arith))

pub loop-i-preserved : goal.loop-i-preserved
loop-i-preserved c = let l = c.loop-i in
    l.invariant ∙ digits_next l.digits l.i l.rest (omega arith) (omega arith) (omega arith)

pub returns : goal.returns
returns c = let l = c.loop-i in
    let e : l.i ≡ 0 = omega arith in
    sym (rw e at (l.invariant ∙ digits_all l.digits l.i l.rest (omega arith)))

use borrow.Author.Tests.{lt-ltb, le-ltb}
use Rattle.std.proofs.Common.{◌≡◌, ◌≤◌, ◌<◌, arith}
use Rattle.line.specs.Line.{said, fill_means, on_number}
use Rattle.line.proofs.fill_of.Goals as goal

pub returns-in_err-value : goal.returns-in_err-value
unfolding fill_means on_number
returns-in_err-value c l = rw (c.from_residual.ensures, ← c.in_err-value.ensures)

pub returns-in_err-fill : goal.returns-in_err-fill
unfolding fill_means on_number
returns-in_err-fill c l = let t = c.try_from.ensures in let o = c.ok.ensures in let i = c.in_err-fill.was in
    let h : 255 < c.in_ok-value.value = grind arith in
    rw (c.from_residual-in_err-fill.ensures, ← c.in_ok-value.ensures, lt-ltb _ _ h)

pub returns : goal.returns
unfolding said fill_means on_number
returns c l = let t = c.try_from.ensures in let o = c.ok.ensures in let i = c.in_ok-fill.was in
    let h : c.in_ok-value.value ≤ 255 = grind arith in
    let e : c.in_ok-fill.fill ≡ c.in_ok-value.value = grind arith in
    rw (← c.in_ok-value.ensures, le-ltb _ _ h, ← e) (c.ended.ensures l)

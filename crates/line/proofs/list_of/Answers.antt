use native.Mathlib.Omega.{arith}
use mathlib.Core.Path.{sym}
use Rattle.text.specs.ScanLaws.{stripped, not_stripped}
use Rattle.line.specs.LineLaws.{goes_full, goes_not, goes_wrong, goes_end, goes_on}
use Rattle.line.proofs.list_of.Goals as goal

pub returns-in_err-value : goal.returns-in_err-value
returns-in_err-value c = rw c.from_residual.ensures (goes_not _ _ _ _ _ c.loop-k.invariant (omega arith) (sym c.in_err-value.ensures))

pub returns-then-is_empty : goal.returns-then-is_empty
returns-then-is_empty c = goes_end _ _ _ _ _ c.loop-k.invariant (omega arith) _ _ (sym c.in_ok-value.ensures) (omega arith) (grind arith)

pub returns-in_err-rest : goal.returns-in_err-rest
returns-in_err-rest c = rw c.from_residual-in_err-rest.ensures (goes_wrong _ _ _ _ _ c.loop-k.invariant (omega arith) _ _ (sym c.in_ok-value.ensures) (grind arith) (not_stripped _ _ c.in_err-rest.ensures.cases))

pub loop-k-preserved : goal.loop-k-preserved
loop-k-preserved c = goes_on _ _ _ _ _ c.loop-k.invariant (omega arith) _ _ (sym c.in_ok-value.ensures) (omega arith) (grind arith) (stripped _ _ c.in_ok-rest.ensures.cases)

pub returns : goal.returns
returns c = goes_full _ _ _ _ _ c.loop-k.invariant (omega arith)

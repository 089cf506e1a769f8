use Prim.Native.Nat.{◌<◌}
use native.Mathlib.Omega.{arith}
use Rattle.std.proofs.Common.{rules}
use mathlib.Core.Path.{◌≡◌, ap, ◌∙◌}
use lib.ListN.{length}
use Rattle.ledger.specs.FillsLaws.{page_settled}
use Rattle.ledger.specs.LedgerLaws.{entered_none, kept_none, kept_length}
use Rattle.ledger.proofs.numbers.settle_numbers.Goals as goal

pub loop-page-init : goal.loop-page-init
loop-page-init c = (entered_none _ _, kept_none _ _ _ _, omega arith, omega arith)

pub loop-page-preserved : goal.loop-page-preserved
loop-page-preserved c = let l = c.loop-page in
    let inside : l.page < length l.entered = omega arith in
    let w = page_settled _ _ _ _ l.entered l.kept l.page _ _ inside c.page_at-s.ensures l.invariant.0 l.invariant.1 c.entered_then.ensures c.kept_then.ensures in
    (w.0, w.1, search rules, ap length w.1 ∙ kept_length _ _ _ _ _)

pub returns : goal.returns
returns c = let l = c.loop-page in
    let e : l.page ≡ c.args.pages = omega arith in
    record { entered = rw e at l.invariant.0; kept = rw e at l.invariant.1 }

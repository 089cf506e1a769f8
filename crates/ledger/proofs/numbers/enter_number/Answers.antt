-- A page past the end has no entry to store.
use lib.Seq.{set_out}
use lib.ListN.{set}
use mathlib.Core.Path.{sym, ap, ◌∙◌}
use Prim.Native.Nat.{ℕ}
use Rattle.ledger.specs.Fills.{fill_of, fills_of}
use Rattle.ledger.specs.FillsLaws.{fills_length, fills_set}
use Rattle.ledger.proofs.numbers.enter_number.Goals as goal

pub returns-then-page-entered : goal.returns-then-page-entered
unfolding fill_of
returns-then-page-entered c = let a = c.args in fills_set _ _ _ ∙ ap (λ (fill : ℕ). set (fills_of a.entered.now) a.page fill) c.from.ensures

pub returns-else-page-entered : goal.returns-else-page-entered
returns-else-page-entered c = sym (set_out _ _ _ (rw (fills_length c.args.entered.now) c.if-page-entered.false))

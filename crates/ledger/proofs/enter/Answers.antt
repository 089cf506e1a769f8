-- A page past the end has no entry to store.
use lib.Seq.{set_out}
use mathlib.Core.Path.{sym}
use Rattle.ledger.specs.Fills.{fill_of}
use Rattle.ledger.specs.FillsLaws.{fills_length, fills_set}
use Rattle.ledger.proofs.enter.Goals as goal

pub returns-then-page-entered : goal.returns-then-page-entered
unfolding fill_of
returns-then-page-entered c = fills_set _ _ _

pub returns-else-page-entered : goal.returns-else-page-entered
returns-else-page-entered c = sym (set_out _ _ _ (rw (fills_length c.args.entered.now) c.if-page-entered.false))

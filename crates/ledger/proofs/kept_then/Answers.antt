use Rattle.ledger.specs.Ledger.{kept_then}
use Rattle.ledger.specs.FillsLaws.{fill_or}
use Rattle.ledger.proofs.kept_then.Goals as goal

pub returns-then-not-in_flight : goal.returns-then-not-in_flight
unfolding kept_then
returns-then-not-in_flight c = let p = c.unwrap_or in rw (c.if-done.true, ← c.in_flight.ensures, c.if-not-in_flight.true) (fill_or c.args.entered c.args.kept p.type_inv p.ensures)

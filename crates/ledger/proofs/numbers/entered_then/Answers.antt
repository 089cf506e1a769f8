use Rattle.ledger.specs.Ledger.{entered_then}
use Rattle.ledger.specs.Fills.{fill_of}
use Rattle.ledger.proofs.numbers.entered_then.Goals as goal

pub returns-else-in_flight : goal.returns-else-in_flight
unfolding fill_of entered_then
returns-else-in_flight c = rw (← c.in_flight.ensures, c.if-in_flight.false)

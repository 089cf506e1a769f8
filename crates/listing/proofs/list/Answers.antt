use Rattle.outcome.specs.Result.{number_positive}
use Rattle.listing.specs.ListingLaws.{puts_refused, puts_accepted}
use Rattle.listing.proofs.list.Goals as goal

pub returns-in-Ok : goal.returns-in-Ok
returns-in-Ok c = puts_accepted _ _ _ _ _ _ c.in-Ok.ensures c.put_pages.ensures c.put_answer.ensures

pub returns-in-Err : goal.returns-in-Err
returns-in-Err c = puts_refused _ _ _ _ _ _ c.in-Err.ensures (number_positive c.in-Err.refusal) (rw c.number.ensures at c.put_answer-in-Err.ensures)

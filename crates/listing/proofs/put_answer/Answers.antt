use Rattle.text.specs.Scan.{bytes}
use Rattle.text.specs.PutsLaws.{puts_field}
use Rattle.listing.specs.Listing.{answer_text}
use Rattle.listing.proofs.put_answer.Goals as goal

pub returns : goal.returns
unfolding answer_text bytes
returns c = puts_field _ _ _ (bytes "answer=") _ _ c.put_field.ensures c.put_text.ensures

use Rattle.text.specs.Scan.{bytes}
use Rattle.text.specs.PutsLaws.{puts_field}
use Rattle.report.specs.Report.{done_text}
use Rattle.report.proofs.say_done.Goals as goal

pub returns : goal.returns
unfolding done_text bytes
returns c = let f = rw c.answer.ensures at c.put_field.ensures in
    let g = rw c.unwrap_or.ensures at c.put_field-2.ensures in
    puts_field _ _ _ (bytes "answer=") _ _ f (puts_field _ _ _ (bytes " done=") _ _ g c.put_text.ensures)

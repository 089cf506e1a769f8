use mathlib.Core.Path.{refl}
use Rattle.text.specs.Scan.{bytes}
use Rattle.rules.specs.Volume.{Volume}
use Rattle.report.specs.Report.{standing, refused_turn}
use Rattle.report.proofs.refuse.Goals as goal

pub returns : goal.returns
unfolding standing refused_turn bytes
returns c = record { stands = λ (memory : Volume). rw c.ended.ensures refl; prints = λ (memory : Volume). c.put_text.ensures }

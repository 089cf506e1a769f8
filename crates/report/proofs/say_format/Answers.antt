use mathlib.Core.Path.{refl}
use Rattle.std.proofs.Common.{ne_eqb}
use Rattle.outcome.specs.Result.{number_positive}
use Rattle.rules.specs.Volume.{Volume}
use Rattle.report.specs.Report.{standing, formatted}
use Rattle.report.proofs.say_format.Goals as goal

pub returns-in-Ok : goal.returns-in-Ok
unfolding standing formatted
returns-in-Ok c = let p = rw c.answer.ensures at c.put_answer.ensures in
    record { stands = λ (memory : Volume). rw (c.on.ensures, c.in-Ok.is) refl; prints = λ (memory : Volume). p }

pub returns-in-Err : goal.returns-in-Err
unfolding standing formatted
returns-in-Err c = let p = rw c.answer.ensures at c.put_answer.ensures in
    record { stands = λ (memory : Volume). rw (c.in-Err.is, ne_eqb _ _ (number_positive c.in-Err.field-0)) refl; prints = λ (memory : Volume). p }

use Prim.Native.Nat.{ℕ}
use mathlib.Core.Path.{refl}
use mathlib.Core.List.{List}
use Rattle.std.specs.Result.{result_unwrap_or}
use Rattle.bounded.specs.Limits.{two_widths}
use Rattle.outcome.specs.Result.{answer_of}
use Rattle.line.specs.Line.{said}
use Rattle.rules.specs.Volume.{volume}
use Rattle.report.specs.Report.{standing, printing, told}
use Rattle.report.specs.ReportLaws.{answer_told}
use Rattle.report.proofs.tell.Goals as goal

pub returns-in-Format : goal.returns-in-Format
unfolding said told
returns-in-Format c = let a = c.args in
    let memory = volume a.words.now a.contents.now a.state.now in
    let s = c.say_format.ensures in
    rw c.in-Format.is (record { stands = λ (list : List ℕ). s.stands memory; prints = λ (list : List ℕ). s.prints memory })

pub returns-in-Write : goal.returns-in-Write
unfolding said told printing
returns-in-Write c = rw c.in-Write.is (record { stands = λ (list : List ℕ). refl; prints = λ (list : List ℕ). c.say_done.ensures })

pub returns-in-List : goal.returns-in-List
unfolding said told printing standing
returns-in-List c = rw c.in-List.is (record { stands = λ (list : List ℕ). refl; prints = λ (list : List ℕ). c.list.ensures })

pub returns-in_default : goal.returns-in_default
unfolding printing
returns-in_default c = let a = c.args in
    let d = c.in_default in
    let p = rw c.answer.ensures at c.put_answer.ensures in
    let told_so = λ (list : List ℕ). answer_told two_widths (standing a.run (volume a.words.now a.contents.now a.state.now)) a.line list (answer_of a.given) (result_unwrap_or a.given 0) d.not-Format d.not-Write d.not-List in
    record { stands = λ (list : List ℕ). rw (told_so list) refl; prints = λ (list : List ℕ). rw (told_so list) p }

use mathlib.Core.Path.{refl}
use borrow.Author.Tests.{lt-ltb}
use Rattle.line.specs.Line.{said, on_format}
use Rattle.script.specs.Script.{is_format}
use Rattle.dispatch.specs.DispatchLaws.{other_line, other_key}
use Rattle.script.specs.StepLaws.{in_time_later, in_time_first, too_early, still_malformed}
use Rattle.script.proofs.in_time.Goals as goal
use Rattle.script.proofs.in_time.Goals.{then-pages-gt0, else-pages-gt0+in-Format, else-pages-gt0+in_default}

pub returns-in_err-line : goal.returns-in_err-line
returns-in_err-line c list = rw (c.from_residual.ensures, c.in_err-line.was) (still_malformed c.args.pages)

pub returns : goal.returns
unfolding said on_format is_format
returns c list = let pages = c.args.pages in
    let line = c.in_ok-line.line in
    rw (c.then_some.ensures, c.in_ok-line.was)
    (elim c.if-pages-gt0.branch [
      | then-pages-gt0 w ↦ rw (w.then_some-is, lt-ltb _ _ w.if-pages-gt0.true) (in_time_later pages (said line list) w.if-pages-gt0.true)
      | else-pages-gt0+in-Format w ↦ rw w.then_some-is (in_time_first pages (said line list) w.if-pages-gt0.false (rw w.in-Format.is refl))
      | else-pages-gt0+in_default w ↦ rw w.then_some-is (too_early pages (said line list) w.if-pages-gt0.false (other_line line list _ _ (other_key line w.in_default.not-Format)))
    ])

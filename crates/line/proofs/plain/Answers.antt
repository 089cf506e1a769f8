use Rattle.text.specs.Scan.{bytes}
use Rattle.text.specs.ScanLaws.{stripped, not_stripped}
use Rattle.line.specs.Line.{said, plain_means, on_text}
use Rattle.line.proofs.plain.Goals as goal

pub returns-in-Some : goal.returns-in-Some
unfolding bytes said plain_means on_text
returns-in-Some c l = rw (stripped (bytes "op=recover") c.args.line.now c.in-Some.ensures.cases) (c.ended.ensures l)

pub returns-in-Some-strip_prefix : goal.returns-in-Some-strip_prefix
unfolding bytes said plain_means on_text
returns-in-Some-strip_prefix c l =
    rw (not_stripped (bytes "op=recover") c.args.line.now c.in_default.ensures.cases, stripped (bytes "op=cut") c.args.line.now c.in-Some-strip_prefix.ensures.cases) (c.ended-in-Some-strip_prefix.ensures l)

pub returns-in_err-strip_prefix : goal.returns-in_err-strip_prefix
unfolding bytes said plain_means on_text
returns-in_err-strip_prefix c l =
    rw (
      c.from_residual.ensures,
      not_stripped (bytes "op=recover") c.args.line.now c.in_default.ensures.cases,
      not_stripped (bytes "op=cut") c.args.line.now c.in_default-strip_prefix.ensures.cases,
      not_stripped (bytes "op=list") c.args.line.now c.in_err-strip_prefix.ensures.cases,
    )

pub returns : goal.returns
unfolding bytes said plain_means on_text
returns c l =
    rw (
      not_stripped (bytes "op=recover") c.args.line.now c.in_default.ensures.cases,
      not_stripped (bytes "op=cut") c.args.line.now c.in_default-strip_prefix.ensures.cases,
      stripped (bytes "op=list") c.args.line.now c.in_ok-strip_prefix.ensures.cases,
    )
    (c.ended-2.ensures l)

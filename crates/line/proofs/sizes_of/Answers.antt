use borrow.Author.Tests.{lt-ltb, le-ltb}
use Rattle.text.specs.Scan.{bytes}
use Rattle.text.specs.ScanLaws.{stripped, not_stripped}
use Rattle.line.specs.Line.{said, sizes_means, on_text}
use Rattle.line.proofs.sizes_of.Goals as goal

pub returns-in_default : goal.returns-in_default
unfolding bytes said sizes_means on_text
returns-in_default c l = rw (not_stripped (bytes " width=64") c.args.text.now c.in_default.ensures.cases) (c.ended.ensures l)

pub returns-then-slots-gt512 : goal.returns-then-slots-gt512
unfolding bytes said sizes_means on_text
returns-then-slots-gt512 c l = rw (stripped (bytes " width=64") c.args.text.now c.in-Some.ensures.cases, lt-ltb _ _ c.if-slots-gt512.true)

pub returns : goal.returns
unfolding bytes said sizes_means on_text
returns c l = rw (stripped (bytes " width=64") c.args.text.now c.in-Some.ensures.cases, le-ltb _ _ c.if-slots-gt512.false) (c.ended-2.ensures l)

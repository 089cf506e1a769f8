use Rattle.std.proofs.Common.{arith, length-drop}
use Rattle.cuts.specs.Lines.{feed_there, feed_none, length_within}
use Rattle.cuts.proofs.lines.line_end.Goals as goal

pub overflow_add-result : goal.overflow_add-result
overflow_add-result c = let a = c.args in
    omega (arith, feed_there a.text.now a.at c.requires _ c.line_feed.ensures _ c.in-Some.is, length_within, length-drop a.at a.text.now)

pub returns-in-Some : goal.returns-in-Some
returns-in-Some c = feed_there _ _ c.requires _ c.line_feed.ensures _ c.in-Some.is

pub returns-in-None : goal.returns-in-None
returns-in-None c = feed_none _ _ c.requires _ c.line_feed.ensures c.in-None.is

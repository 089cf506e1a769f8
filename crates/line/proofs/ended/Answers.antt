use Rattle.line.specs.LineLaws.{end_said}
use Rattle.line.proofs.ended.Goals as goal

pub returns : goal.returns
returns c l = rw (c.then_some.ensures, c.is_empty.ensures) (end_said c.args.rest.now c.args.says l)

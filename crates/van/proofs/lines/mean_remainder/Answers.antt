use mathlib.Core.Path.{◌∙◌}
use Rattle.van.specs.Columns.{remainder_or}
use Rattle.van.proofs.lines.mean_remainder.Goals as goal

pub returns : goal.returns
returns c = c.unwrap_or.ensures ∙ remainder_or c.args.total c.args.volumes _ c.checked_rem.ensures

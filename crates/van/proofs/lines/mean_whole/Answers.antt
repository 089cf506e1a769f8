use mathlib.Core.Path.{◌∙◌}
use Rattle.van.specs.Columns.{whole_or}
use Rattle.van.proofs.lines.mean_whole.Goals as goal

pub returns : goal.returns
returns c = c.unwrap_or.ensures ∙ whole_or c.args.total c.args.volumes _ c.checked_div.ensures

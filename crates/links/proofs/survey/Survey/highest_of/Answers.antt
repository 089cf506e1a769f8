use mathlib.Core.Path.{◌∙◌}
use Rattle.links.specs.Tables.{top_names}
use Rattle.links.proofs.survey.Survey.highest_of.Goals as goal

pub returns : goal.returns
returns c = c.named_slot.ensures ∙ top_names c.args.self.now _ c.requires

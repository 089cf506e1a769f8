use mathlib.Core.Path.{◌∙◌}
use Rattle.bounded.specs.Limits.{two_widths}
use Rattle.sizes.proofs.SizesLaws.{width_most}
use Rattle.dispatch.specs.DispatchLaws.{filled_write}
use Rattle.dispatch.proofs.write_filled.Goals as goal

pub returns : goal.returns
returns c = c.write.ensures
    ∙ filled_write two_widths _ _ _ _ _ _ _ width_most c.min-n.ensures

use mathlib.Core.Path.{sym, ◌∙◌}
use Rattle.rules.proofs.laws.Chains.{slice_spans}
use Rattle.volume.proofs.Volume.slice_judged.Goals as goal

pub judged-requires : goal.judged-requires
judged-requires c = λ e. slice_spans _ _ _ _ _ (sym c.slice_fits.ensures ∙ e)

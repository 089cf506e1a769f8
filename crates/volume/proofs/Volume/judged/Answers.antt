use mathlib.Core.Path.{sym, ◌∙◌}
use Rattle.rules.proofs.laws.Chains.{volume_spans}
use Rattle.volume.proofs.Volume.judged.Goals as goal

pub judged-requires : goal.judged-requires
judged-requires c = λ e. volume_spans _ _ _ _ (sym c.fits.ensures ∙ e)

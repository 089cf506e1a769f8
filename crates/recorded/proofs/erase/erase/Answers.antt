-- Where erase answers 12 the trial blanks every listed slot; else both answer the same.
use mathlib.Core.Path.{sym, ◌∙◌}
use Rattle.std.proofs.Common.{inl, inr}
use Rattle.bounded.specs.Limits.{two_widths}
use Rattle.sizes.proofs.SizesLaws.{width_most}
use Rattle.rules.specs.Volume.{volume}
use Rattle.collect.specs.EraseLaws.{converts_same}
use Rattle.recorded.specs.TrialLaws.{is_twelve, trial_same, trial_listed, trial_done}
use Rattle.recorded.proofs.erase.erase.Goals as goal
use Rattle.recorded.proofs.erase.erase.Goals.{else-trial-via-then-trial+else-eq, else-trial-via-else-trial}

pub blank_listed-requires : goal.blank_listed-requires
blank_listed-requires c = let a = c.args in
    let twelve = sym (c.eq.ensures ∙ is_twelve _) ∙ c.if-eq.true in
    let listed = trial_listed a.trial two_widths a.sizes (volume a.words.now a.contents.now a.state.now) a.list.now _ _ c.erase-erased.ensures c.if-trial.true twelve in
    record { listed_in = (a.list.now, converts_same a.list.now, listed.0); width_bound = width_most _ listed.1 }

pub returns-then-eq : goal.returns-then-eq
returns-then-eq c = let a = c.args in
    let twelve = sym (c.eq.ensures ∙ is_twelve _) ∙ c.if-eq.true in
    trial_done a.trial two_widths a.sizes (volume a.words.now a.contents.now a.state.now) a.list.now _ _ c.erase-erased.ensures c.if-trial.true twelve _ (c.blank_listed.ensures a.list.now (converts_same a.list.now))

pub returns : goal.returns
returns c = let a = c.args in
    trial_same a.trial two_widths a.sizes (volume a.words.now a.contents.now a.state.now) a.list.now _ _ c.erase-erased.ensures
    (elim c.else-trial.branch [ else-trial-via-then-trial+else-eq w ↦ inr (sym (w.eq.ensures ∙ is_twelve _) ∙ w.if-eq.false) | else-trial-via-else-trial w ↦ inl w.if-trial.false ])

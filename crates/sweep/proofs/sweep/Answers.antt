-- Refused: the answer and the buffers as they were. Accepted: what the three erasures leave.
use mathlib.Core.Path.{sym, ap, ◌∙◌}
use Rattle.bounded.specs.Limits.{two_widths}
use Rattle.outcome.specs.Reply.{outcome_of}
use Rattle.outcome.specs.Result.{given_back, refused, done}
use Rattle.rules.specs.Volume.{volume}
use Rattle.upkeep.specs.Sweep.{sweep_outcome}
use Rattle.rules.proofs.laws.Chains.{judged_passed, volume_spans}
use Rattle.upkeep.proofs.laws.Sweep.{sweep_leaves}
use Rattle.judge.specs.Judgeable.{sound_flash}
use Rattle.sweep.specs.SweepLaws.{answer_judged}
use Rattle.sweep.proofs.sweep.Goals as goal

pub returns-in_err-judged : goal.returns-in_err-judged
unfolding sweep_outcome
returns-in_err-judged c =
    rw (given_back c.from_residual.result c.from_residual.ensures.1) (refused 0 0 _ _ _ (answer_judged _ _ _ (rw c.new-volume.ensures at c.in_err-judged.ensures)))

pub sweep_flash-requires : goal.sweep_flash-requires
sweep_flash-requires c = let j = judged_passed _ _ _ _ _ _ (sym (rw c.new-volume.ensures at c.in_ok-judged.ensures)) in
    record { sound_flash = sound_flash _ _ _ _ j.fitting j.table; pages_in_bounds = (volume_spans _ _ _ _ j.fitting).pages_in_lem }

pub shape_of-words : goal.shape_of-words
shape_of-words c = c.sweep_flash.auto.words

pub shape_of-contents : goal.shape_of-contents
shape_of-contents c = c.sweep_flash.auto.contents

pub returns : goal.returns
unfolding sweep_outcome
returns c = let a = c.args in
    let v = volume a.words.now a.contents.now a.state.now in
    let none = answer_judged two_widths a.sizes v (rw c.new-volume.ensures at c.in_ok-judged.ensures) in
    ap (outcome_of 0 0) (c.sweep_flash.ensures ∙ sym (sweep_leaves two_widths a.sizes v (sym none))) ∙ done 0 0 _ _ none

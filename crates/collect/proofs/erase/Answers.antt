-- Refused: the answer and the buffers as they were. Accepted: what the tests said gives the bounds of the listed slots.
use mathlib.Core.Path.{sym, ap, ◌∙◌}
use Rattle.bounded.specs.Limits.{two_widths}
use Rattle.outcome.specs.Reply.{outcome_of}
use Rattle.outcome.specs.Result.{given_back, refused, done}
use Rattle.sizes.proofs.SizesLaws.{width_most}
use Rattle.rules.specs.Volume.{volume}
use Rattle.collect.specs.EraseLaws.{accepted_tests, accepted_listed, converts_same, outcome_in}
use Rattle.collect.proofs.erase.Goals as goal

pub returns-in_err-may_erase : goal.returns-in_err-may_erase
returns-in_err-may_erase c = let a = c.args in
    let v = volume a.words.now a.contents.now a.state.now in
    rw (given_back c.from_residual.result c.from_residual.ensures.1) (refused 0 0 _ _ _ (rw c.new-volume.ensures at c.in_err-may_erase.ensures) ∙ outcome_in a.layout two_widths a.sizes v a.list.now)

pub blank_listed-requires : goal.blank_listed-requires
blank_listed-requires c = let a = c.args in
    let v = volume a.words.now a.contents.now a.state.now in
    let e = sym (rw c.new-volume.ensures at c.in_ok-may_erase.ensures) in
    record { listed_in = (a.list.now, converts_same a.list.now, accepted_listed a.layout two_widths a.sizes v a.list.now e); width_bound = width_most _ (accepted_tests a.layout two_widths a.sizes v a.list.now e).0.allowed }

pub shape_of-words : goal.shape_of-words
shape_of-words c = c.blank_listed.auto.words

pub shape_of-contents : goal.shape_of-contents
shape_of-contents c = c.blank_listed.auto.contents

pub returns : goal.returns
returns c = let a = c.args in
    let v = volume a.words.now a.contents.now a.state.now in
    ap (outcome_of 0 0) (c.blank_listed.ensures a.list.now (converts_same a.list.now))
    ∙ done 0 0 _ _ (rw c.new-volume.ensures at c.in_ok-may_erase.ensures)
    ∙ outcome_in a.layout two_widths a.sizes v a.list.now

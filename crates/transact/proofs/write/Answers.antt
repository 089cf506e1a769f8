use mathlib.Core.Path.{◌≡◌, refl, sym, ap₂, ◌∙◌}
use mathlib.Core.Bool.{Bool, true, false, cond}
use mir.Val.{bool_byte}
use Rattle.bounded.specs.Limits.{two_widths}
use Rattle.outcome.specs.Reply.{outcome_of}
use Rattle.outcome.specs.Result.{given_back, refused, done}
use Rattle.rules.specs.Volume.{Volume, volume}
use Rattle.transact.specs.Accepted.{write_accepted, write_leaves, write_says, outcome_in}
use Rattle.transact.proofs.write.Goals as goal

-- 1 for a ring that is complete
bit_of : (done : Bool) → bool_byte done ≡ cond done 1 0
bit_of true = refl
bit_of false = refl

pub returns-in_err-may_write : goal.returns-in_err-may_write
returns-in_err-may_write c = let a = c.args in
    let v = volume a.words.now a.contents.now a.state.now in
    rw (given_back c.from_residual.result c.from_residual.ensures.1) (refused 0 _ _ _ _ (rw c.new-volume.ensures at c.in_err-may_write.ensures) ∙ outcome_in a.layout two_widths a.sizes v a.page a.slot a.bytes.now)

pub plan_of-requires : goal.plan_of-requires
plan_of-requires c = let a = c.args in
    let v = volume a.words.now a.contents.now a.state.now in
    (write_accepted a.layout two_widths a.sizes v a.page a.slot a.bytes.now (sym (rw c.new-volume.ensures at c.in_ok-may_write.ensures))).walkable

pub put_slot-requires : goal.put_slot-requires
put_slot-requires c = let a = c.args in
    let v = volume a.words.now a.contents.now a.state.now in
    let w = write_accepted a.layout two_widths a.sizes v a.page a.slot a.bytes.now (sym (rw c.new-volume.ensures at c.in_ok-may_write.ensures)) in
    record { layout_in_bounds = w.words_in; bytes_in_bounds = w.contents_in }

pub write_page-done-requires : goal.write_page-done-requires
write_page-done-requires c = let a = c.args in
    let v = volume a.words.now a.contents.now a.state.now in
    (write_accepted a.layout two_widths a.sizes v a.page a.slot a.bytes.now (sym (rw c.new-volume.ensures at c.in_ok-may_write.ensures))).walkable

pub returns : goal.returns
returns c = let a = c.args in
    let v = volume a.words.now a.contents.now a.state.now in
    let z = sym (rw c.new-volume.ensures at c.in_ok-may_write.ensures) in
    let w = c.write_page-done in
    let flash = c.put_slot in
    let left = write_leaves a.layout two_widths a.sizes v a.page a.slot a.bytes.now z c.plan_of.result c.plan_of.ensures flash.ensures.words_after flash.ensures.contents_after w.ensures.1 in
    let says = write_says a.layout two_widths a.sizes v a.page a.slot a.bytes.now z w.result w.ensures.0 refl in
    ap₂ (outcome_of {B = Volume} 0) (c.from.ensures ∙ bit_of w.result ∙ sym says) left
    ∙ done 0 _ _ _ (rw c.new-volume.ensures at c.in_ok-may_write.ensures)
    ∙ outcome_in a.layout two_widths a.sizes v a.page a.slot a.bytes.now

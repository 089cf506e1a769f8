use Prim.Native.Nat.{ℕ}
use Rattle.std.proofs.Common.{ap, ◌∙◌}
use mathlib.Core.List.{List}
use Rattle.bounded.specs.Fronts.{front_lent}
use Rattle.line.specs.Line.{said}
use Rattle.rules.specs.Volume.{volume}
use Rattle.atomicity.specs.Call.{perform, with_state, with_flash}
use Rattle.dispatch.specs.Dispatch.{accepted, line_outcome}
use Rattle.dispatch.specs.DispatchLaws.{volume_ends, state_ends, state_by, flash_ends}
use Rattle.dispatch.proofs.call.Goals as goal

pub returns-in-Format : goal.returns-in-Format
unfolding said line_outcome
returns-in-Format c = rw (c.in-Format.is, c.and.ensures) (volume_ends _ c.format.result ∙ c.format.ensures)

pub returns-in-Launch : goal.returns-in-Launch
unfolding said line_outcome perform
returns-in-Launch c = let a = c.args in
    let v = volume a.words.now a.contents.now a.state.now in
    let cut = front_lent _ _ a.list.now c.min-n.ensures in
    rw (c.in-Launch.is, c.and-in-Launch.ensures, ← cut) (state_ends v _ c.launch.result ∙ ap (with_state v) c.launch.ensures)

pub returns-in-Write : goal.returns-in-Write
unfolding said line_outcome perform
returns-in-Write c = rw c.in-Write.is c.write_filled.ensures

pub returns-in-Withdraw : goal.returns-in-Withdraw
unfolding said line_outcome perform
returns-in-Withdraw c = let a = c.args in
    let v = volume a.words.now a.contents.now a.state.now in
    rw (c.in-Withdraw.is, c.and-in-Withdraw.ensures) (state_ends v _ c.withdraw.result ∙ ap (with_state v) c.withdraw.ensures)

pub returns-in-Erase : goal.returns-in-Erase
unfolding said line_outcome perform
returns-in-Erase c = let a = c.args in
    let v = volume a.words.now a.contents.now a.state.now in
    let cut = front_lent _ _ a.list.now c.min-n-in-Erase.ensures in
    rw (c.in-Erase.is, c.and-in-Erase.ensures, ← cut) (flash_ends v (volume c.erase.new.words c.erase.new.contents a.state.now) c.erase.result ∙ ap (with_flash v) c.erase.ensures)

pub returns-in-Recover : goal.returns-in-Recover
unfolding said line_outcome perform
returns-in-Recover c = let a = c.args in
    let v = volume a.words.now a.contents.now a.state.now in
    rw c.in-Recover.is (state_by v _ c.recover.result ∙ ap (with_state v) c.recover.ensures)

pub returns-in-Cut : goal.returns-in-Cut
unfolding said line_outcome accepted
returns-in-Cut c = let a = c.args in
    rw c.in-Cut.is (ap (λ (state : List ℕ). accepted (volume a.words.now a.contents.now state)) c.lose.ensures)

pub returns-in-List : goal.returns-in-List
unfolding said line_outcome accepted
returns-in-List c = rw c.in-List.is

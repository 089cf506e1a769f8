-- Each arm is the function that it calls.
use borrow.Enum.Refused.{opened}
use Rattle.bounded.specs.Limits.{two_widths}
use Rattle.bounded.specs.Fronts.{front_lent}
use Rattle.line.specs.Line.{said}
use Rattle.recorded.specs.Desk.{desk_after, desk_cuts}
use Rattle.recorded.specs.Held.{desk_of}
use Rattle.recorded.specs.StepLaws.{other_after}
use Rattle.recorded.proofs.Desk.step.Goals as goal

pub returns-in-Write : goal.returns-in-Write
unfolding said desk_after desk_cuts
returns-in-Write c = rw c.in-Write.is c.write_line.ensures

pub returns-in-Erase : goal.returns-in-Erase
unfolding said desk_after desk_cuts
returns-in-Erase c = let cut = front_lent _ _ c.args.list.now c.min-n.ensures in rw (c.in-Erase.is, ← cut) c.erase_line.ensures

pub returns-in_default : goal.returns-in_default
returns-in_default c = let a = c.args in
    let s = a.self.now in
    let o = c.other_line.ensures in
    let w = other_after two_widths s.sizes (desk_of s) s.trial a.line a.list.now a.tally (opened c.in_default.in_default-own.keys3) _ o.leaves in
    record { leaves = w.0; counts = w.1; same_sizes = o.same_sizes; same_trial = o.same_trial; same_buffers = o.same_buffers; bytes = o.bytes }

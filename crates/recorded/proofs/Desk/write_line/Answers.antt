-- Refused, the ledger is as it was; accepted, it is settled by the state that the write leaves, and its one cut is counted.
use native.Mathlib.Omega.{arith}
use mathlib.Core.Path.{refl, ◌∙◌}
use Rattle.bounded.specs.Limits.{two_widths}
use Rattle.line.specs.Line.{said}
use Rattle.dispatch.specs.Dispatch.{line_outcome}
use Rattle.atomicity.specs.Call.{perform}
use Rattle.ledger.specs.FillsLaws.{same_fills, fills_room}
use Rattle.recorded.specs.Held.{desk_of}
use Rattle.recorded.specs.HeldLaws.{still_ready}
use Rattle.recorded.specs.Buffers.{lent_length, state_most}
use Rattle.recorded.specs.StepLaws.{write_refused, write_done}
use Rattle.recorded.specs.BytesLaws.{write_bytes}
use Rattle.recorded.proofs.Desk.write_line.Goals as goal

pub returns-in_default : goal.returns-in_default
unfolding said line_outcome perform
returns-in_default c = let a = c.args in
    let s = a.self.now in
    let w = write_refused two_widths s.sizes (desk_of s) a.page a.slot a.fill _ a.tally _ c.in_default.ensures in
    record { leaves = w.0; bytes = write_bytes two_widths s.sizes (desk_of s) a.page a.slot a.fill (omega (arith, c.ranges)) w.0; counts = w.1; same_sizes = refl; same_trial = refl; same_buffers = record { same_words = refl; same_contents = refl; same_state = refl; same_entered = refl; same_kept = refl; same_lengths = record { words = c.call.auto.words; contents = c.call.auto.contents; state = c.call.auto.state; entered = refl; kept = refl } } }

pub settle_numbers-requires-clause-pages_in_bounds_2 : goal.settle_numbers-requires-clause-pages_in_bounds_2
settle_numbers-requires-clause-pages_in_bounds_2 c = let s = c.args.self.now in
    let room = fills_room _ s.entered.now s.ready.entered_room in
    omega (arith, room, c.enter_number.auto.entered)

pub invariant_of-self : goal.invariant_of-self
invariant_of-self c = let s = c.args.self.now in
    let call = c.call.auto in
    record { ready = still_ready s.sizes _ (desk_of s) s.ready (record { words = call.words; contents = call.contents; state = call.state; entered = refl; kept = refl }) }

pub invariant_of-self-2 : goal.invariant_of-self-2
invariant_of-self-2 c = let s = c.args.self.now in
    let call = c.call.auto in
    let settled = c.settle_numbers.auto in
    record {
      ready = still_ready s.sizes _ (desk_of s) s.ready
          (record { words = call.words; contents = call.contents; state = call.state; entered = same_fills s.entered.now _ (settled.entered ∙ c.enter_number.auto.entered); kept = settled.kept });
    }

pub slice_bounds-cut_state-end : goal.slice_bounds-cut_state-end
slice_bounds-cut_state-end c = omega (arith, c.call.auto.state, state_most _ _ c.args.self.now.ready.fits)

pub comes_back-requires : goal.comes_back-requires
comes_back-requires c = let ready = c.args.self.now.ready in
    omega (arith, ready.kept_room, c.settle_numbers.auto.kept)

pub count-requires : goal.count-requires
count-requires c = c.requires

pub returns : goal.returns
unfolding said line_outcome perform
returns c = let a = c.args in
    let s = a.self.now in
    let fits = s.ready.fits in
    let size = c.call.auto.state in
    let lent = lent_length _ 1024 (omega (arith, size, state_most _ _ fits)) ∙ size ∙ fits.state_sized in
    let w = write_done two_widths s.sizes (desk_of s) a.page a.slot a.fill _ a.tally _ c.in-Ok.ensures c.enter_number.ensures (c.settle_numbers.ensures.entered, c.settle_numbers.ensures.kept) _ lent c.comes_back.ensures c.count.ensures in
    record { leaves = w.0; bytes = write_bytes two_widths s.sizes (desk_of s) a.page a.slot a.fill (omega (arith, c.ranges)) w.0; counts = w.1; same_sizes = refl; same_trial = refl; same_buffers = record { same_words = refl; same_contents = refl; same_state = refl; same_entered = refl; same_kept = refl; same_lengths = record { words = c.call.auto.words; contents = c.call.auto.contents; state = c.call.auto.state; entered = same_fills s.entered.now _ (c.settle_numbers.auto.entered ∙ c.enter_number.auto.entered); kept = c.settle_numbers.auto.kept } } }

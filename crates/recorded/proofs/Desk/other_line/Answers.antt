-- The call leaves a volume, by whose state the ledger is settled.
use mathlib.Core.Path.{refl}
use Rattle.bounded.specs.Limits.{two_widths}
use Rattle.line.specs.Line.{said}
use Rattle.ledger.specs.FillsLaws.{same_fills, fills_room}
use Rattle.recorded.specs.Held.{desk_of}
use Rattle.recorded.specs.HeldLaws.{still_ready}
use Rattle.recorded.specs.StepLaws.{other_done}
use Rattle.recorded.specs.BytesLaws.{other_bytes}
use Rattle.recorded.proofs.Desk.other_line.Goals as goal

pub settle_numbers-requires-clause-pages_in_bounds_2 : goal.settle_numbers-requires-clause-pages_in_bounds_2
settle_numbers-requires-clause-pages_in_bounds_2 c = let s = c.args.self.now in fills_room _ s.entered.now s.ready.entered_room

pub invariant_of-self : goal.invariant_of-self
invariant_of-self c = let s = c.args.self.now in
    let call = c.call.auto in
    let settled = c.settle_numbers.auto in
    record { ready = still_ready s.sizes _ (desk_of s) s.ready (record { words = call.words; contents = call.contents; state = call.state; entered = same_fills s.entered.now _ settled.entered; kept = settled.kept }) }

pub returns-clause-leaves : goal.returns-clause-leaves
returns-clause-leaves c = let s = c.args.self.now in
    other_done two_widths s.sizes (desk_of s) _ _ _ _ _ c.call.ensures (c.settle_numbers.ensures.entered, c.settle_numbers.ensures.kept)

pub returns-clause-bytes : goal.returns-clause-bytes
returns-clause-bytes c = let a = c.args in
    let s = a.self.now in
    other_bytes two_widths s.sizes (desk_of s) (said a.line a.list.now) (other_done two_widths s.sizes (desk_of s) _ _ _ _ _ c.call.ensures (c.settle_numbers.ensures.entered, c.settle_numbers.ensures.kept))

pub returns-clause-same_buffers : goal.returns-clause-same_buffers
returns-clause-same_buffers c = let s = c.args.self.now in
    let call = c.call.auto in
    let settled = c.settle_numbers.auto in
    record { same_words = refl; same_contents = refl; same_state = refl; same_entered = refl; same_kept = refl; same_lengths = record { words = call.words; contents = call.contents; state = call.state; entered = same_fills s.entered.now _ settled.entered; kept = settled.kept } }

-- The table is of the volume, and judging by what was found is the rule's permission.
use native.Mathlib.Omega.{arith}
use mathlib.Core.Path.{◌≡◌, ◌∙◌}
use mathlib.Core.Bool.{◌&&◌}
use Rattle.std.proofs.Common.{rules}
use Rattle.bounded.specs.Below.{list_below}
use Rattle.noted.specs.Noted.{noted}
use Rattle.record.specs.Slot.{slot_at}
use Rattle.state.specs.State.{state_at}
use Rattle.rules.specs.Permission.{may_erase, untwinned}
use Rattle.upkeep.specs.Sweep.{is_obsolete_at}
use Rattle.permit.specs.Shown.{shown}
use Rattle.sweep.specs.Chosen.{obsolete_found}
use Rattle.sweep.proofs.choice.find_obsolete.Goals as goal

pub returns : goal.returns
returns c = let table = c.prepare-table.result in
    let t = c.prepare-table.ensures in
    let S = table.sizes.slots in
    let slots = slot_at table.words.now in
    let pages = state_at table.state.now in
    let all : noted c.note_passing.new.self ≡ list_below S (λ k. is_obsolete_at slots pages k && may_erase (untwinned S slots pages) k) =
    c.note_passing.ensures (λ k. is_obsolete_at slots pages k && may_erase (shown table) k) (λ k h. absurd (omega arith)) (λ k b l h ran. search rules)
    ∙ obsolete_found S slots pages t.all_found in
    rw (t.same_sizes, t.same_words, t.same_state) at all

-- The table is of the volume, and as many exposed records are found as there are, no more than slots.
use Prim.Native.Nat.{◌≤◌}
use native.Mathlib.Omega.{arith}
use mathlib.Core.Path.{ap}
use lib.ListN.{length}
use Rattle.bounded.specs.Members.{count_below}
use Rattle.rules.specs.Found.{exposed_slots}
use Rattle.permit.specs.Prepared.{exposed_at}
use Rattle.figures.specs.CountingLaws.{all_figures}
use Rattle.figures.proofs.figures_of.Goals as goal

pub overflow_cast-result : goal.overflow_cast-result
unfolding exposed_slots
overflow_cast-result c = let table = c.prepare-table.result in
    let few = table.within.slots_few in
    let most : length table.found.now ≤ table.sizes.slots =
    rw (ap length c.prepare-table.ensures.all_found) (count_below (exposed_at table.words.now table.state.now) table.sizes.slots) in
    omega arith

pub returns : goal.returns
returns c = let t = c.prepare-table.ensures in
    all_figures _ _ _ _ c.set_pages-pages.ensures (rw (t.same_sizes, t.same_words, t.same_state) at c.obsolete_records-obsolete.ensures)
    (rw (t.same_sizes, t.same_words, t.same_state) at (ap length t.all_found))

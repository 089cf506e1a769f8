-- A marked slot is in the list; an unmarked one is outside it where it is a twin.
use mathlib.Core.Path.{sym, ◌∙◌}
use Rattle.std.proofs.Math.Bool.{and-true, and-false}
use Rattle.judge.specs.Marked.{marked}
use Rattle.judge.specs.Judgeable.{slot_inside}
use Rattle.judge.proofs.Evidence.is_twin_outside.Goals as goal

pub are_twins-requires : goal.are_twins-requires
are_twins-requires c = let p = c.requires in
    let e = c.args.self.now in
    let inside = slot_inside e.table.sizes.slots e.table.sizes.width e.table.words.now e.contents.now e.table.within.slots_in_lem e.bytes_in in
    let j = inside c.args.other p.other_lt_slots in
    let k = inside c.args.slot p.slot_lt_slots in
    record { j_in_bounds = j.words_in; k_in_bounds = k.words_in; width_in_bounds = j.bytes_in; width_in_bounds_2 = k.bytes_in }

pub returns-then-not-listed : goal.returns-then-not-listed
unfolding marked
returns-then-not-listed c = c.are_twins.ensures ∙ sym (rw c.if-not-listed.true (and-true _))

pub returns-else-not-listed : goal.returns-else-not-listed
unfolding marked
returns-else-not-listed c = rw c.if-not-listed.false (sym (and-false _))

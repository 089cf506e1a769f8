-- The table is of the volume, the marks stand for the list, and judging by what was found is the rule's permission.
use native.Mathlib.Omega.{arith}
use mathlib.Core.Path.{◌∙◌}
use Rattle.twins.specs.Twins.{twins}
use Rattle.rules.specs.Volume.{volume, slots_of, pages_of}
use Rattle.rules.proofs.laws.Found.{list_judged_by_found}
use Rattle.judge.proofs.may_erase_all.Goals as goal

pub mark_listed-requires : goal.mark_listed-requires
mark_listed-requires c = λ i h. let p = c.requires in let few = p.linkable.slots_few in let b = p.listed.in_range_lem i h in omega arith

pub all_permitted-requires-clause-listed : goal.all_permitted-requires-clause-listed
all_permitted-requires-clause-listed c = rw c.prepare-table.ensures.same_sizes c.requires.listed

pub returns : goal.returns
returns c = let a = c.args in
    let v = volume a.words.now a.contents.now a.state.now in
    let t = c.prepare-table.ensures in
    rw (t.all_found, t.same_sizes, t.same_words, t.same_state) at c.all_permitted.ensures
    ∙ list_judged_by_found a.sizes.slots (slots_of v) (pages_of v) (twins a.sizes.width v.flash) a.list.now

-- The table is of the volume, and judging by what was found is the rule's permission.
use Prim.Native.Nat.{◌<◌}
use Rattle.std.proofs.Common.{subst}
use Rattle.std.specs.Option.{SomeIff}
use Rattle.bounded.specs.Below.{first_below}
use Rattle.twins.specs.Twins.{twins}
use Rattle.rules.specs.Volume.{volume, slots_of, pages_of}
use Rattle.rules.specs.Permission.{Scene, may_erase_alone}
use Rattle.rules.specs.Suggest.{suggestible, suggested_slot}
use Rattle.rules.proofs.laws.Found.{found_scene}
use Rattle.judge.proofs.first_erasable.Goals as goal

pub returns : goal.returns
unfolding suggested_slot suggestible may_erase_alone
returns c = let a = c.args in
    let v = volume a.words.now a.contents.now a.state.now in
    let t = c.prepare-table.ensures in
    subst (λ (s : Scene). SomeIff c.first_permitted.result (first_below a.sizes.slots (may_erase_alone s) < a.sizes.slots) (first_below a.sizes.slots (may_erase_alone s)))
    (found_scene a.sizes.slots (slots_of v) (pages_of v) (twins a.sizes.width v.flash))
    (rw (t.all_found, t.same_sizes, t.same_words, t.same_state) at c.first_permitted.ensures)

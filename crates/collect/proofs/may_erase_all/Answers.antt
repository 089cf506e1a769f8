-- The permission is crate judge's, and of four words crate permit's.
use mathlib.Core.Path.{sym, ap, ◌∙◌}
use Rattle.sizes.specs.declared.Layout.{Layout}
use Rattle.record.specs.Slot.{slot_in}
use Rattle.state.specs.State.{state_at}
use Rattle.twins.specs.Twins.{twins}
use Rattle.rules.specs.Permission.{scene}
use Rattle.rules.specs.laws.Families.{may_erase_all_in}
use Rattle.permit.specs.Prepared.{judged_linkable_in}
use Rattle.permit.specs.Readable.{judged_readable}
use Rattle.volume.specs.Held.{held}
use Rattle.collect.proofs.may_erase_all.Goals as goal

pub may_erase_all-requires : goal.may_erase_all-requires
may_erase_all-requires c = record { linkable = judged_linkable_in _ _ _ _ c.in-FiveWords.is c.requires.passed.spans c.requires.passed.table; pages_in_bounds = c.requires.passed.spans.pages_in_lem; slots_in_bounds = c.requires.passed.slots_in_bounds; listed = c.requires.listed }

pub may_erase_all-requires-in-FourWords : goal.may_erase_all-requires-in-FourWords
may_erase_all-requires-in-FourWords c = record { readable = judged_readable _ _ _ _ c.in-FourWords.is c.requires.passed.spans c.requires.passed.table; listed = c.requires.listed }

pub returns-in-FiveWords : goal.returns-in-FiveWords
returns-in-FiveWords c = let v = c.args.volume.now in
    c.may_erase_all.ensures
    ∙ ap (λ (x : Layout). may_erase_all_in x (scene v.sizes.slots (slot_in x v.words.now) (state_at v.state.now) (twins v.sizes.width (held v).flash)) c.args.list.now) (sym c.in-FiveWords.is)

pub returns-in-FourWords : goal.returns-in-FourWords
returns-in-FourWords c = let v = c.args.volume.now in
    c.may_erase_all-in-FourWords.ensures
    ∙ ap (λ (x : Layout). may_erase_all_in x (scene v.sizes.slots (slot_in x v.words.now) (state_at v.state.now) (twins v.sizes.width (held v).flash)) c.args.list.now) (sym c.in-FourWords.is)

-- The slots found are blanked; the old rule judges them as the list of all obsolete records does.
use mathlib.Core.Path.{◌∙◌}
use Rattle.record.specs.Flash.{flash}
use Rattle.state.specs.State.{state_at}
use Rattle.sweep.specs.Chosen.{erasable_listed}
use Rattle.collect.specs.EraseLaws.{converts_same}
use Rattle.sweep.specs.SweepLaws.{chosen_listed, chosen_erased}
use Rattle.sweep.proofs.erase_obsolete.Goals as goal

pub find_obsolete-requires : goal.find_obsolete-requires
find_obsolete-requires c = let p = c.requires in record { linkable = p.sound_flash.linkable; pages_in_bounds = p.pages_in_bounds }

pub blank_listed-requires : goal.blank_listed-requires
blank_listed-requires c = let s = c.requires.sound_flash in
    record { listed_in = (c.as_slice.result.now, converts_same c.as_slice.result.now, chosen_listed _ _ _ _ (c.as_slice.ensures ∙ c.find_obsolete.ensures) s); width_bound = s.width_few }

pub shape_of-words : goal.shape_of-words
shape_of-words c = c.blank_listed.auto.words

pub shape_of-contents : goal.shape_of-contents
shape_of-contents c = c.blank_listed.auto.contents

pub returns : goal.returns
returns c = let a = c.args in
    chosen_erased a.sizes a.words.now a.contents.now _
    (c.as_slice.ensures ∙ c.find_obsolete.ensures ∙ erasable_listed a.sizes.width (flash a.words.now a.contents.now) a.sizes.slots (state_at a.state.now))
    (c.blank_listed.ensures c.as_slice.result.now (converts_same c.as_slice.result.now))

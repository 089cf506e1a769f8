-- Each erasure leaves a sound flash to the next.
use mathlib.Core.Path.{◌∙◌}
use Rattle.sweep.specs.SweepLaws.{erased_sound, three_erased}
use Rattle.sweep.proofs.sweep_flash.Goals as goal

pub erase_obsolete-requires : goal.erase_obsolete-requires
erase_obsolete-requires c = let p = c.requires in record { sound_flash = erased_sound _ _ _ _ p.sound_flash c.erase_exposed.ensures; pages_in_bounds = p.pages_in_bounds }

pub erase_twins-requires : goal.erase_twins-requires
erase_twins-requires c = erased_sound _ _ _ _ (erased_sound _ _ _ _ c.requires.sound_flash c.erase_exposed.ensures) c.erase_obsolete.ensures

pub shape_of-words : goal.shape_of-words
shape_of-words c = c.erase_twins.auto.words ∙ c.erase_obsolete.auto.words ∙ c.erase_exposed.auto.words

pub shape_of-contents : goal.shape_of-contents
shape_of-contents c = c.erase_twins.auto.contents ∙ c.erase_obsolete.auto.contents ∙ c.erase_exposed.auto.contents

pub returns : goal.returns
returns c = let a = c.args in
    three_erased a.sizes a.words.now a.contents.now a.state.now c.erase_exposed.ensures c.erase_obsolete.ensures c.erase_twins.ensures

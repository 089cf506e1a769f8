-- The slots found are blanked.
use mathlib.Core.Path.{◌∙◌}
use Rattle.permit.specs.Prepared.{linkable_within}
use Rattle.collect.specs.EraseLaws.{converts_same}
use Rattle.sweep.specs.SweepLaws.{chosen_listed, chosen_erased}
use Rattle.sweep.proofs.erase_exposed.Goals as goal

pub find_spare_exposed-requires : goal.find_spare_exposed-requires
find_spare_exposed-requires c = let p = c.requires in linkable_within _ _ _ _ p.sound_flash.linkable p.pages_in_bounds

pub blank_listed-requires : goal.blank_listed-requires
blank_listed-requires c = let s = c.requires.sound_flash in
    record { listed_in = (c.as_slice.result.now, converts_same c.as_slice.result.now, chosen_listed _ _ _ _ (c.as_slice.ensures ∙ c.find_spare_exposed.ensures) s); width_bound = s.width_few }

pub shape_of-words : goal.shape_of-words
shape_of-words c = c.blank_listed.auto.words

pub shape_of-contents : goal.shape_of-contents
shape_of-contents c = c.blank_listed.auto.contents

pub returns : goal.returns
returns c = let a = c.args in
    chosen_erased a.sizes a.words.now a.contents.now _ (c.as_slice.ensures ∙ c.find_spare_exposed.ensures) (c.blank_listed.ensures c.as_slice.result.now (converts_same c.as_slice.result.now))

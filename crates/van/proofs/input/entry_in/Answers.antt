-- The words read and the contents lent are the flash that stands in the input.
use native.Mathlib.Omega.{arith}
use mathlib.Core.Path.{refl, ap, ap₂, ◌∙◌}
use Rattle.bounded.specs.Limits.{two_widths}
use Rattle.fleet.specs.Figures.{entry_of}
use Rattle.fleet.specs.Input.{table_end, volume_length}
use Rattle.fleet.proofs.InputLaws.{whole_facts}
use Rattle.van.specs.Reading.{flash_is}
use Rattle.van.proofs.input.entry_in.Goals as goal

pub read_words-requires : goal.read_words-requires
read_words-requires c = let w = whole_facts two_widths c.args.input.now c.requires.input_value in
    let l = c.requires.words_len in
    omega arith

pub sizes_at-sizes-requires : goal.sizes_at-sizes-requires
sizes_at-sizes-requires c = (whole_facts two_widths c.args.input.now c.requires.input_value).header

pub volume_length-end-requires : goal.volume_length-end-requires
volume_length-end-requires c = rw c.sizes_at-sizes.ensures (whole_facts two_widths c.args.input.now c.requires.input_value).taken

pub slice_bounds-entry_of-count : goal.slice_bounds-entry_of-count
unfolding volume_length table_end
slice_bounds-entry_of-count c = omega (arith, c.volume_length-end.ensures)

pub slice_bounds-entry_of-start : goal.slice_bounds-entry_of-start
unfolding volume_length table_end
slice_bounds-entry_of-start c = omega (arith, c.volume_length-end.ensures)

pub slice_bounds-entry_of-end : goal.slice_bounds-entry_of-end
slice_bounds-entry_of-end c = omega (arith, c.volume_length-end.ensures, ap volume_length c.sizes_at-sizes.ensures, (whole_facts two_widths c.args.input.now c.requires.input_value).all_there)

pub entry_of-requires : goal.entry_of-requires
entry_of-requires c = rw c.sizes_at-sizes.ensures (whole_facts two_widths c.args.input.now c.requires.input_value).sizes_ok_lem

pub returns : goal.returns
unfolding table_end
returns c = let a = c.args in
    let z = c.sizes_at-sizes in
    let w = c.read_words in
    c.entry_of.ensures
    ∙ ap₂ (entry_of two_widths) z.ensures (flash_is a.input.now w.new.words z.result _ _ _ z.ensures c.requires.words_len w.ensures refl c.volume_length-end.ensures)

-- The flash before the erase is copied; accepted, its listed slots are in the copy, and every cut of it is counted.
use mathlib.Core.Path.{sym, subst}
use lib.ListN.{replicate}
use Rattle.bounded.specs.Choice.{told}
use Rattle.bounded.specs.Limits.{two_widths}
use Rattle.sizes.specs.declared.Layout.TheVariants.{FiveWords}
use Rattle.record.specs.Flash.{Flash, flash}
use Rattle.rules.specs.Volume.{volume}
use Rattle.rules.specs.laws.Volume.{FitsIn}
use Rattle.recorded.specs.Buffers.{contents_most, copy_again}
use Rattle.recorded.specs.TrialLaws.{copy_listed}
use Rattle.recorded.specs.StepLaws.{erase_refused, erase_done}
use Rattle.recorded.proofs.erase.erase_line.Goals as goal

pub slice_bounds-from_contents-end : goal.slice_bounds-from_contents-end
slice_bounds-from_contents-end c = contents_most _ _ c.requires.fits_in

pub returns-then-is_err : goal.returns-then-is_err
returns-then-is_err c = let a = c.args in
    let w = erase_refused a.trial two_widths a.sizes (volume a.words.now a.contents.now a.state.now) a.kept.now a.list.now _ a.tally _ c.erase.ensures (told c.is_err.ensures.value c.if-is_err.true) in
    record { leaves = w.0; counts = w.1 }

pub cut_copies-requires : goal.cut_copies-requires
cut_copies-requires c = let a = c.args in
    let p = c.requires in
    let same = copy_again (flash a.words.now a.contents.now) (replicate 5120 0) (replicate 65536 0) _ _ c.copy_flash.ensures in
    let fits = subst (λ (f : Flash). FitsIn FiveWords two_widths a.sizes (record { flash = f; state = a.state.now })) (sym same) p.fits_in in
    let listed = copy_listed a.trial two_widths a.sizes (volume a.words.now a.contents.now a.state.now) a.list.now _ _ c.erase.ensures (told c.is_err.ensures.value c.if-is_err.false) _ same in
    record { fits_in = fits; pages_in_bounds = p.pages_in_bounds; listed_in = listed; list_bound = p.list_bound }

pub returns : goal.returns
returns c = let a = c.args in
    let same = copy_again (flash a.words.now a.contents.now) (replicate 5120 0) (replicate 65536 0) _ _ c.copy_flash.ensures in
    let w = erase_done a.trial two_widths a.sizes (volume a.words.now a.contents.now a.state.now) a.kept.now a.list.now _ a.tally _ c.erase.ensures (told c.is_err.ensures.value c.if-is_err.false) _ same c.cut_copies.ensures in
    record { leaves = w.0; counts = w.1 }

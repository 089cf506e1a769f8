-- What the test of a volume's sizes and lengths says, as facts.
use Rattle.std.specs.Prelude.{ℕ, ◌<◌, ◌≡◌, ◌↔◌, true, ◌&&◌, length}
use Rattle.std.proofs.Math.Bool.{Bool}
use Rattle.bounded.specs.Limits.{Widths}
use Rattle.bounded.specs.Choice.{both, both_left, both_right}
use Rattle.sizes.specs.declared.Layout.{Layout}
use Rattle.sizes.specs.declared.Layout.TheVariants.{FiveWords}
use Rattle.sizes.specs.declared.Sizes.{Sizes}
use Rattle.sizes.specs.Sizes.{sizes_ok, words_fit_in, contents_fit, state_fits}
use Rattle.sizes.proofs.SizesLaws.{sizes_facts, sizes_test, words_fit_in_lem, contents_fit_exactly, state_fits_exactly}
use Rattle.bounded.specs.PartsLaws.{part_length}
use Rattle.record.specs.Slot.{bytes_at}
use Rattle.record.specs.Flash.{Flash}
use Rattle.record.specs.FlashLaws.{SizedIn}
use Rattle.rules.specs.Volume.{Volume, volume_fits_in, volume_fits}
use Rattle.rules.specs.laws.Volume.{FitsIn, Fits}

-- each slot of a flash has its w bytes
pub bytes_whole : {layout : Layout} (w S : ℕ) (f : Flash) → SizedIn layout w S f → (k : ℕ) → k < S → length (bytes_at w f.contents k) ≡ w
unfolding bytes_at
bytes_whole w S f size k h = part_length w S k f.contents h size.contents_sized

module _ (layout : Layout) (widths : Widths) (sizes : Sizes) (v : Volume) where
  pub fits_in_facts : volume_fits_in layout widths sizes v ≡ true → FitsIn layout widths sizes v
  unfolding volume_fits_in
  fits_in_facts e =
      let words_test : Bool = words_fit_in layout sizes.slots v.flash.words in
      let contents_test : Bool = contents_fit sizes.width sizes.slots v.flash.contents in
      let state_test : Bool = state_fits sizes.pages v.state in
      let e1 = both_right (sizes_ok widths sizes) (words_test && (contents_test && state_test)) e in
      let e2 = both_right words_test (contents_test && state_test) e1 in
      let s = sizes_facts widths sizes (both_left (sizes_ok widths sizes) (words_test && (contents_test && state_test)) e) in
      record {
        bounds = s.0;
        allowed = s.1;
        flash_sized = record {
          words_sized = (words_fit_in_lem layout sizes.slots v.flash.words).0 (both_left words_test (contents_test && state_test) e1);
          contents_sized = (contents_fit_exactly sizes.width sizes.slots v.flash.contents).0 (both_left contents_test state_test e2);
        };
        state_sized = (state_fits_exactly sizes.pages v.state).0 (both_right contents_test state_test e2);
      }

  pub fits_in_test : FitsIn layout widths sizes v → volume_fits_in layout widths sizes v ≡ true
  unfolding volume_fits_in
  fits_in_test f =
      both (sizes_test widths sizes f.bounds f.allowed)
      (both ((words_fit_in_lem layout sizes.slots v.flash.words).1 f.flash_sized.words_sized)
      (both ((contents_fit_exactly sizes.width sizes.slots v.flash.contents).1 f.flash_sized.contents_sized) ((state_fits_exactly sizes.pages v.state).1 f.state_sized)))

-- the same of five words
module _ (widths : Widths) (sizes : Sizes) (v : Volume) where
  pub fits_facts : volume_fits widths sizes v ≡ true → Fits widths sizes v
  fits_facts e = fits_in_facts FiveWords widths sizes v e

  pub fits_test : Fits widths sizes v → volume_fits widths sizes v ≡ true
  fits_test f = fits_in_test FiveWords widths sizes v f

  pub fits_exactly : (volume_fits widths sizes v ≡ true) ↔ Fits widths sizes v
  fits_exactly = (fits_facts, fits_test)

-- A volume: the flash and the state, and what each slot and each page holds there.
use Rattle.std.specs.Prelude.{ℕ, List, Bool, ◌&&◌}
use Rattle.bounded.specs.Limits.{Widths}
use Rattle.sizes.specs.declared.Layout.{Layout}
use Rattle.sizes.specs.declared.Layout.TheVariants.{FiveWords}
use Rattle.sizes.specs.declared.Sizes.{Sizes}
use Rattle.sizes.specs.Sizes.{sizes_ok, words_fit_in, contents_fit, state_fits}
use Rattle.record.specs.Slot.{Slot}
use Rattle.record.specs.Slot.{slot_in}
use Rattle.record.specs.Flash.{Flash}
use Rattle.state.specs.declared.PageState.{PageState}
use Rattle.state.specs.State.{state_at}

-- the flash and the state ("sheet") of a volume
pub record Volume : Type 0 where
  pub flash : Flash
  pub state : List ℕ

-- the volume of these three buffers
abbrev pub volume : (words contents state : List ℕ) → Volume
volume words contents state = record { flash = record { words = words; contents = contents }; state = state }

-- what each of its slots holds, read in a layout; and, of five words,
abbrev pub slots_in : Layout → Volume → ℕ → Slot
slots_in layout v = slot_in layout v.flash.words

abbrev pub slots_of : Volume → ℕ → Slot
slots_of v = slots_in FiveWords v

-- each page's state
abbrev pub pages_of : Volume → ℕ → PageState
pages_of v = state_at v.state

-- P, S, the width and the lengths of a volume's buffers are right
unfoldable pub volume_fits_in : Layout → Widths → Sizes → Volume → Bool
volume_fits_in layout widths sizes v =
    sizes_ok widths sizes
    && (words_fit_in layout sizes.slots v.flash.words
    && (contents_fit sizes.width sizes.slots v.flash.contents
    && state_fits sizes.pages v.state))

-- the same of five words
abbrev pub volume_fits : Widths → Sizes → Volume → Bool
volume_fits widths sizes v = volume_fits_in FiveWords widths sizes v

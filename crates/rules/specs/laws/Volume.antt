-- What the test of a volume's sizes and lengths says, as facts.
use Rattle.std.specs.Prelude.{◌*◌, ◌≡◌, true, length}
use Rattle.bounded.specs.Limits.{Widths}
use Rattle.sizes.specs.declared.Layout.{Layout}
use Rattle.sizes.specs.declared.Layout.TheVariants.{FiveWords}
use Rattle.sizes.specs.declared.Sizes.{Sizes}
use Rattle.sizes.specs.SizesLaws.{SizesFacts}
use Rattle.record.specs.FlashLaws.{SizedIn}
use Rattle.rules.specs.Volume.{Volume}

-- P, S, the width and the lengths of a volume's buffers are right
pub record FitsIn (layout : Layout) (widths : Widths) (sizes : Sizes) (v : Volume) : Type 0 where
  pub bounds : SizesFacts sizes.pages sizes.slots
  pub allowed : widths sizes.width ≡ true
  pub flash_sized : SizedIn layout sizes.width sizes.slots v.flash
  pub state_sized : length v.state ≡ 4 * sizes.pages

abbrev pub Fits : Widths → Sizes → Volume → Type 0
Fits widths sizes v = FitsIn FiveWords widths sizes v

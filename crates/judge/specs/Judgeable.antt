-- What the search for twins rests on: a sound table with the bytes of its slots, and their chains.
use Rattle.std.specs.Prelude.{ℕ, ◌+◌, ◌*◌, ◌≤◌, ◌<◌, ◌≡◌, List, true, length}
use Rattle.std.proofs.Common.{arith}
use Rattle.bounded.specs.Limits.{two_widths}
use Rattle.bounded.specs.PartsLaws.{part_inside}
use Rattle.sizes.specs.declared.Layout.TheVariants.{FiveWords}
use Rattle.sizes.specs.declared.Sizes.{Sizes}
use Rattle.sizes.proofs.SizesLaws.{width_most}
use Rattle.record.specs.Slot.{slot_at}
use Rattle.record.specs.Flash.{flash}
use Rattle.record.specs.FlashLaws.{SizedIn}
use Rattle.table.specs.Table.{table_sound}
use Rattle.chain.specs.declared.Key.TheVariants.{Pointer}
use Rattle.chain.specs.Chain.{Linkable, Chained}
use Rattle.rules.specs.Volume.{volume, volume_fits}
use Rattle.rules.proofs.laws.Volume.{fits_facts}
use Rattle.rules.proofs.laws.Chains.{volume_spans}
use Rattle.permit.specs.Prepared.{judged_linkable}

-- slot k is in the words, and its w bytes in the contents
pub record SlotInside (w : ℕ) (words contents : List ℕ) (k : ℕ) : Type 0 where
  pub words_in : 5 * k + 5 ≤ length words
  pub bytes_in : w * k + w ≤ length contents

pub slot_inside : (S w : ℕ) (words contents : List ℕ) → 5 * S ≤ length words → w * S ≤ length contents → (k : ℕ) → k < S → SlotInside w words contents k
slot_inside S w words contents a b k h = record { words_in = omega arith; bytes_in = let i = part_inside w S k h in omega arith }

-- its slots are searched for twins along the chains
pub record Comparable (P S w : ℕ) (words contents chains : List ℕ) : Type 0 where
  pub linkable : Linkable P S words
  pub bytes_in : w * S ≤ length contents
  pub chained : Chained Pointer S (slot_at words) chains

-- ---- a flash whose slots are judged, and then stored or blanked

pub record SoundFlash (sizes : Sizes) (words contents : List ℕ) : Type 0 where
  pub linkable : Linkable sizes.pages sizes.slots words
  pub flash_sized : SizedIn FiveWords sizes.width sizes.slots (flash words contents)
  pub width_few : sizes.width ≤ 64

-- at the two widths there are, that of a volume that fits and whose table is sound
pub sound_flash :
    (sizes : Sizes) (words contents state : List ℕ)
    → volume_fits two_widths sizes (volume words contents state) ≡ true
    → table_sound sizes.pages sizes.slots (slot_at words) ≡ true
    → SoundFlash sizes words contents
sound_flash sizes words contents state e t =
    let f = fits_facts two_widths sizes (volume words contents state) e in
    record {
      linkable = judged_linkable sizes.pages sizes.slots words state (volume_spans FiveWords two_widths sizes (volume words contents state) e) t;
      flash_sized = f.flash_sized;
      width_few = width_most sizes.width f.allowed;
    }

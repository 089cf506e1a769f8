-- Document 02, wish 5: a write that is refused by 16, "a record would be buried", and what then may be done, stated: erase every exposed record but those whose page
-- is in flight with v = used, and write again.
use Rattle.std.specs.Prelude.{ℕ, ◌<◌, ◌≡◌, List, true, not, ◌&&◌, length, get_or}
use Rattle.bounded.specs.Limits.{Widths}
use Rattle.sizes.specs.declared.Layout.TheVariants.{FourWords}
use Rattle.sizes.specs.declared.Sizes.{Sizes}
use Rattle.sizes.specs.Sizes.{list_ok}
use Rattle.record.specs.Slot.{holds}
use Rattle.rules.specs.Volume.{Volume, slots_in, pages_of}
use Rattle.rules.specs.Permission.{is_exposed, is_current}
use Rattle.rules.specs.SimpleCalls.{simple_write_answer, simple_erase_answer}
use Rattle.atomicity.specs.Family.{simple}
use Rattle.atomicity.specs.Call.{Call, perform}
use Rattle.atomicity.specs.Run.{Event, world_after}
use Rattle.atomicity.specs.Promise.{Premises}
use Rattle.atomicity.specs.Companions.{StateKnown}

-- slot k holds "an exposed record other than one whose page is in flight with v = used"
abbrev pub SpareAt : Volume → ℕ → Type 0
SpareAt v k = holds (λ r. is_exposed (pages_of v) r && not (is_current (pages_of v) r)) (slots_in FourWords v k) ≡ true

-- the list has every slot that holds one
abbrev pub ListsSpare : Sizes → Volume → List ℕ → Type 0
ListsSpare sizes v slots = (k : ℕ) → k < sizes.slots → SpareAt v k → (i : ℕ) × (i < length slots) × (get_or slots i 0 ≡ k)

-- of a volume, and of it after an erase of such a list:
pub record UnburiedAt (widths : Widths) (sizes : Sizes) (v : Volume) : Type 0 where
  -- where no slot holds such a record, no write is refused by 16;
  pub where_none : ((k : ℕ) → k < sizes.slots → ¬ (SpareAt v k)) → (page slot : ℕ) (bytes : List ℕ) → ¬ (simple_write_answer widths sizes v page slot bytes ≡ 16)
  -- nor is one after the erase;
  pub after_erase :
      (slots : List ℕ)
      → ListsSpare sizes v slots
      → simple_erase_answer widths sizes v slots ≡ 0
      → (page slot : ℕ) (bytes : List ℕ)
      → ¬ (simple_write_answer widths sizes (perform simple widths sizes v (Call.Erase slots)).left page slot bytes ≡ 16)
  -- and the write that was refused by 16 is then accepted
  pub then_done :
      (slots : List ℕ)
      → ListsSpare sizes v slots
      → simple_erase_answer widths sizes v slots ≡ 0
      → (page slot : ℕ) (bytes : List ℕ)
      → simple_write_answer widths sizes v page slot bytes ≡ 16
      → simple_write_answer widths sizes (perform simple widths sizes v (Call.Erase slots)).left page slot bytes ≡ 0

pub record Unburied : Type 0 where
  -- this holds of the volume after every list under the premises that leaves the state known;
  pub reached :
      (widths : Widths) (sizes : Sizes) (v : Volume) (events : List Event)
      → Premises simple widths sizes v events
      → StateKnown simple widths sizes v events
      → UnburiedAt widths sizes (world_after simple widths sizes v events).volume
  -- and a list of such slots, none of them twice, is accepted wherever a write is refused by 16.
  pub accepted :
      (widths : Widths) (sizes : Sizes) (v : Volume) (page slot : ℕ) (bytes slots : List ℕ)
      → simple_write_answer widths sizes v page slot bytes ≡ 16
      → list_ok sizes.slots slots ≡ true
      → ((i : ℕ) → i < length slots → SpareAt v (get_or slots i 0))
      → simple_erase_answer widths sizes v slots ≡ 0

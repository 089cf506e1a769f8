-- A volume as a call reads it: what its buffers hold, whether they fit, and the conditions that calls share.
use denote.Ref.{Bor}
use Rattle.std.specs.Prelude.{ℕ, List, ◌*◌, ◌≤◌, ◌≡◌, Bool, true, ◌&&◌, eqb, length}
use Rattle.std.proofs.Common.{arith}
use Rattle.bounded.specs.Limits.{two_widths}
use Rattle.bounded.specs.Choice.{both_left}
use Rattle.sizes.specs.declared.Layout.{Layout}
use Rattle.sizes.specs.declared.Sizes.{Sizes}
use Rattle.record.specs.Slot.{Slot, slot_in}
use Rattle.state.specs.declared.PageState.{PageState}
use Rattle.state.specs.State.{state_at}
use Rattle.table.specs.Table.{table_sound}
use Rattle.rules.specs.Volume.{Volume, volume, volume_fits_in}
use Rattle.rules.specs.laws.Chains.{judged_in, SpansIn}
use Rattle.rules.proofs.laws.Volume.{fits_in_facts}
use Rattle.rules.proofs.laws.Chains.{judged_passed, volume_spans}
use Rattle.volume.specs.declared.Volume.{Volume as Lent}

-- the one of these buffers
abbrev pub lent : Layout → Sizes → (words contents state : Bor (List ℕ)) → Lent
lent layout sizes words contents state = record { layout = layout; sizes = sizes; words = words; contents = contents; state = state }

-- the flash and the state
abbrev pub held : Lent → Volume
held v = volume v.words.now v.contents.now v.state.now

-- what each of its slots holds, and each page's state
abbrev pub slots : Lent → ℕ → Slot
slots v = slot_in v.layout v.words.now

abbrev pub pages : Lent → ℕ → PageState
pages v = state_at v.state.now

-- P, S, the width and the lengths of its buffers are right
abbrev pub fits : Lent → Bool
fits v = volume_fits_in v.layout two_widths v.sizes (held v)

-- … and so is the length of a slice for one slot's bytes
abbrev pub slice_fits : Lent → ℕ → Bool
slice_fits v n = fits v && eqb n v.sizes.width

-- its words and its state span all slots and all pages
abbrev pub SpansAll : Lent → Type 0
SpansAll v = SpansIn v.layout v.sizes.pages v.sizes.slots v.words.now v.state.now

-- 1, 2 and 5 of the calls on a whole volume, 1 by a test of lengths
abbrev pub judged_by : Bool → Lent → ℕ
judged_by fits v = judged_in v.layout fits v.sizes.pages v.sizes.slots v.words.now v.state.now

-- what one has that is judged and passes: the table is sound, and the bytes of all slots are in the contents
pub record PassedIn (layout : Layout) (sizes : Sizes) (v : Volume) : Type 0 where
  pub spans : SpansIn layout sizes.pages sizes.slots v.flash.words v.state
  pub slots_in_bounds : sizes.width * sizes.slots ≤ length v.flash.contents
  pub table : table_sound sizes.pages sizes.slots (slot_in layout v.flash.words) ≡ true

abbrev pub Passed : Lent → Type 0
Passed v = PassedIn v.layout v.sizes (held v)

module _ (layout : Layout) (sizes : Sizes) (v : Volume) where
  abbrev fitting : Bool
  fitting = volume_fits_in layout two_widths sizes v

  by_fits : fitting ≡ true → table_sound sizes.pages sizes.slots (slot_in layout v.flash.words) ≡ true → PassedIn layout sizes v
  by_fits e t =
      let f = fits_in_facts layout two_widths sizes v e in
      let s = f.flash_sized.contents_sized in
      record { spans = volume_spans layout two_widths sizes v e; slots_in_bounds = omega arith; table = t }

  pub passed : judged_in layout fitting sizes.pages sizes.slots v.flash.words v.state ≡ 0 → PassedIn layout sizes v
  passed z =
      let j = judged_passed layout fitting sizes.pages sizes.slots v.flash.words v.state z in
      by_fits j.fitting j.table

  pub slice_passed : (n : ℕ) → judged_in layout (fitting && eqb n sizes.width) sizes.pages sizes.slots v.flash.words v.state ≡ 0 → PassedIn layout sizes v
  slice_passed n z =
      let j = judged_passed layout (fitting && eqb n sizes.width) sizes.pages sizes.slots v.flash.words v.state z in
      by_fits (both_left fitting (eqb n sizes.width) j.fitting) j.table

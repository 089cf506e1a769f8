-- What is shown of sweeping on any volume, document 02, wish 7, stated: each of its erasures is empty or one that erase accepts, and then nothing is left to erase; and, of volumes that runs reach, how the slots that it blanked are sorted into its erasures.
use Rattle.std.specs.Prelude.{ℕ, ◌≡◌, ◌⊎◌, List, [], Bool, not, ◌&&◌}
use Rattle.bounded.specs.Limits.{Widths}
use Rattle.bounded.specs.Below.{list_below}
use Rattle.sizes.specs.declared.Sizes.{Sizes}
use Rattle.record.specs.Slot.{Slot}
use Rattle.record.specs.Slot.{slot_at, is_blank}
use Rattle.record.specs.Flash.{Flash}
use Rattle.rules.specs.Volume.{Volume, slots_of, pages_of}
use Rattle.rules.specs.Erase.{erase_answer}
use Rattle.rules.specs.Suggest.{suggest_answer}
use Rattle.upkeep.specs.Sweep.{is_spare_exposed, is_obsolete_at, swept_exposed, without_exposed, swept_obsolete, without_obsolete, swept_twins, sweep_answer, sweep_outcome}

-- a list of slots is empty, or erase accepts it on this flash, with the state of v
abbrev pub NoneOrErasable : Widths → Sizes → Volume → Flash → List ℕ → Type 0
NoneOrErasable widths sizes v f list = (list ≡ []) ⊎ (erase_answer widths sizes (record { flash = f; state = v.state }) list ≡ 0)

-- Of every accepted sweep each erasure is empty or a list that erase accepts on the flash that those before it left.
abbrev pub SweepErases : Type 0
SweepErases =
    (widths : Widths) (sizes : Sizes) (v : Volume)
    → sweep_answer widths sizes v ≡ 0
    → NoneOrErasable widths sizes v v.flash (swept_exposed sizes v)
    × NoneOrErasable widths sizes v (without_exposed sizes v) (swept_obsolete sizes v)
    × NoneOrErasable widths sizes v (without_obsolete sizes v) (swept_twins sizes v)

-- Straight after an accepted sweep no slot may be erased: suggest answers 13.
abbrev pub SweptBare : Type 0
SweptBare =
    (widths : Widths) (sizes : Sizes) (v : Volume)
    → sweep_answer widths sizes v ≡ 0
    → suggest_answer widths sizes (record { flash = (sweep_outcome widths sizes v).left; state = v.state }) ≡ 13

-- ---- the order in which a driver erases

-- slot k holds a record before and is blank after
unfoldable pub is_blanked : (before after : ℕ → Slot) → ℕ → Bool
is_blanked before after k = not (is_blank (before k)) && is_blank (after k)

-- (Shown of volumes that runs reach: `Sweeps` of crate atomicity.) The slots that a sweep of the volume blanked, `after` being the flash that it left, sorted by their old record with the state, are its three erasures, each rising:
pub record Sorted (sizes : Sizes) (v : Volume) (after : Flash) : Type 0 where
  -- the first has those whose old record is exposed, and not of a page in flight with v = used;
  pub exposed_first :
      swept_exposed sizes v
      ≡ list_below sizes.slots (λ k. is_blanked (slots_of v) (slot_at after.words) k && is_spare_exposed (slots_of v) (pages_of v) k)
  -- the second those whose old record is obsolete;
  pub obsolete_second :
      swept_obsolete sizes v
      ≡ list_below sizes.slots (λ k. is_blanked (slots_of v) (slot_at after.words) k && is_obsolete_at (slots_of v) (pages_of v) k)
  -- and the third any other
  pub others_last :
      swept_twins sizes v
      ≡ list_below sizes.slots (λ k. is_blanked (slots_of v) (slot_at after.words) k && (not (is_spare_exposed (slots_of v) (pages_of v) k) && not (is_obsolete_at (slots_of v) (pages_of v) k)))

-- The call sweep, document 02, wish 7: three erasures in a row, each finished before the next begins, and its outcome.
use Rattle.std.specs.Prelude.{ℕ, Bool, not, ◌&&◌}
use mathlib.Core.List.{List, [], ◌∷◌, flatten}
use Rattle.bounded.specs.Limits.{Widths}
use Rattle.bounded.specs.Below.{some_below, list_below}
use Rattle.outcome.specs.Outcome.{◌⇒◌otherwise◌, Outcome, settled}
use Rattle.sizes.specs.declared.Sizes.{Sizes}
use Rattle.record.specs.Slot.{Slot}
use Rattle.record.specs.Slot.{holds}
use Rattle.record.specs.Flash.{Flash, Step, apply_all}
use Rattle.state.specs.declared.PageState.{PageState}
use Rattle.state.specs.State.{state_sound}
use Rattle.table.specs.Table.{table_sound}
use Rattle.twins.specs.Twins.{twins}
use Rattle.rules.specs.Volume.{Volume, volume_fits, slots_of, pages_of}
use Rattle.rules.specs.Permission.{is_obsolete, is_exposed, is_current, may_erase_from, Scene, scene_of}
use Rattle.rules.specs.Erase.{erase_steps}

-- ---- what each of the three erases; `twin j k` says that slots j and k are twins

-- "first erases each exposed record other than one whose page is in flight with v = used"
unfoldable pub is_spare_exposed : (ℕ → Slot) → (ℕ → PageState) → ℕ → Bool
is_spare_exposed t st k = holds (λ r. is_exposed st r && not (is_current st r)) (t k)

-- "then each obsolete one that may then be erased, all judged as one list"
unfoldable pub is_obsolete_at : (ℕ → Slot) → (ℕ → PageState) → ℕ → Bool
is_obsolete_at t st k = holds (is_obsolete st) (t k)

unfoldable pub is_erasable_obsolete : Scene → ℕ → Bool
is_erasable_obsolete s k = is_obsolete_at s.table s.state k && may_erase_from s (is_obsolete_at s.table s.state) k

-- "and of other twins keeps the lowest"
unfoldable pub is_higher_twin : (twin : ℕ → ℕ → Bool) → ℕ → Bool
is_higher_twin twin k = some_below k (λ j. twin j k)

-- ---- the single steps, fixed from the volume before the call: "Its steps are listed and done as in cleaning"

module _ (sizes : Sizes) (v : Volume) where
  unfoldable pub swept_exposed : List ℕ
  swept_exposed = list_below sizes.slots (is_spare_exposed (slots_of v) (pages_of v))

  -- the flash without these
  unfoldable pub without_exposed : Flash
  without_exposed = apply_all sizes.width v.flash (erase_steps swept_exposed)

  unfoldable pub swept_obsolete : List ℕ
  swept_obsolete = list_below sizes.slots (is_erasable_obsolete (scene_of sizes (record { flash = without_exposed; state = v.state })))

  -- … and without these
  unfoldable pub without_obsolete : Flash
  without_obsolete = apply_all sizes.width without_exposed (erase_steps swept_obsolete)

  unfoldable pub swept_twins : List ℕ
  swept_twins = list_below sizes.slots (is_higher_twin (twins sizes.width without_obsolete))

  -- Where a cut may fall: "its erasings (exposed, obsolete, spare twins) follow in that order, each finished before the next begins, and a cut may leave any part of the one it meets done"
  unfoldable pub sweep_stages : List (List Step)
  sweep_stages = erase_steps swept_exposed ∷ erase_steps swept_obsolete ∷ erase_steps swept_twins ∷ []

  unfoldable pub sweep_steps : List Step
  sweep_steps = flatten sweep_stages

-- ---- the call

-- "It refuses by 1, 2 and 5 as erase does."
unfoldable pub sweep_answer : Widths → Sizes → Volume → ℕ
sweep_answer widths sizes v =
    not (volume_fits widths sizes v) ⇒ 1 otherwise
    not (table_sound sizes.pages sizes.slots (slots_of v)) ⇒ 2 otherwise
    not (state_sound sizes.pages (pages_of v)) ⇒ 5 otherwise
    0

-- It alters the flash alone, by these steps.
unfoldable pub sweep_outcome : Widths → Sizes → Volume → Outcome Flash
sweep_outcome widths sizes v = settled (sweep_answer widths sizes v) 0 0 v.flash (apply_all sizes.width v.flash (sweep_steps sizes v))

-- One line of a recorded script carried out with a cut at every point of it, as the program's buffers have it: `desk_after` is what it leaves in them, `desk_cuts` what is found at the cuts.
use Rattle.std.specs.Prelude.{ℕ, ◌≤◌, List, [], ◌∷◌, Bool, false, cond, eqb, length, set, replicate}
use Rattle.bounded.specs.Limits.{Widths}
use Rattle.outcome.specs.Outcome.{Outcome}
use Rattle.sizes.specs.declared.Layout.TheVariants.{FiveWords}
use Rattle.sizes.specs.declared.Sizes.{Sizes}
use Rattle.line.specs.Line.{Said}
use Rattle.state.specs.State.{state_at}
use Rattle.rules.specs.Volume.{Volume}
use Rattle.rules.specs.Write.{write_outcome}
use Rattle.rules.specs.laws.Volume.{FitsIn}
use Rattle.dispatch.specs.Dispatch.{line_outcome}
use Rattle.atomicity.specs.Family.{back_pointer}
use Rattle.everywhere.specs.Cuts.{wiped_state, comes_back, erase_outcome_by}
use Rattle.ledger.specs.Ledger.{filled, settled_entered, settled_kept}
use Rattle.cutpoint.specs.Judged.{erase_cuts}

-- the volume, and the ledger's two buffers
pub record Desk : Type 0 where
  pub volume : Volume
  pub entered : List ℕ
  pub kept : List ℕ

abbrev pub desk : Volume → (entered kept : List ℕ) → Desk
desk v entered kept = record { volume = v; entered = entered; kept = kept }

-- the buffers have their lengths
pub record Ready (widths : Widths) (sizes : Sizes) (d : Desk) : Type 0 where
  pub fits : FitsIn FiveWords widths sizes d.volume
  pub entered_room : sizes.pages ≤ length d.entered
  pub kept_room : sizes.pages ≤ length d.kept

module _ (widths : Widths) (sizes : Sizes) where
  -- the ledger behind a call that left this volume
  unfoldable pub settled_desk : (done : Bool) → Volume → (entered kept : List ℕ) → Desk
  settled_desk done v entered kept = desk v (settled_entered sizes.pages (state_at v.state) entered) (settled_kept sizes.pages done (state_at v.state) entered kept)

  -- ---- a write: its one cut finds the flash that it leaves

  unfoldable pub wrote_desk : Desk → (page fill : ℕ) → Outcome Volume → Desk
  wrote_desk d page fill o = cond (eqb o.answer 0) (settled_desk (eqb o.second 1) o.left (set d.entered page fill) d.kept) (desk o.left d.entered d.kept)

  unfoldable pub write_desk : Desk → (page slot fill : ℕ) → Desk
  write_desk d page slot fill = wrote_desk d page fill (write_outcome widths sizes d.volume page slot (replicate sizes.width fill))

  unfoldable pub desk_back : Desk → Bool
  desk_back d = comes_back back_pointer widths sizes (record { flash = d.volume.flash; state = wiped_state sizes }) (filled sizes.width d.kept)

  unfoldable pub write_cuts : Desk → (page slot fill : ℕ) → List Bool
  write_cuts d page slot fill = cond (eqb (write_outcome widths sizes d.volume page slot (replicate sizes.width fill)).answer 0) (desk_back (write_desk d page slot fill) ∷ []) []

  -- ---- an erase, our own or the trial one

  unfoldable pub erase_desk : (trial : Bool) → Desk → (slots : List ℕ) → Desk
  erase_desk trial d slots = desk (record { flash = (erase_outcome_by trial widths sizes d.volume slots).left; state = d.volume.state }) d.entered d.kept

  unfoldable pub cuts_of_erase : (trial : Bool) → Desk → (slots : List ℕ) → List Bool
  cuts_of_erase trial d slots =
      cond (eqb (erase_outcome_by trial widths sizes d.volume slots).answer 0) (erase_cuts widths sizes d.volume.flash (wiped_state sizes) (filled sizes.width d.kept) slots) []

  -- ---- any other line that may stand in a script alters no flash

  unfoldable pub other_desk : Desk → Said → Desk
  other_desk d says = settled_desk false (line_outcome widths sizes d.volume says).left d.entered d.kept

  -- ---- a line

  unfoldable pub desk_after : (trial : Bool) → Desk → Said → Desk
  desk_after trial d (Said.Format own) = other_desk d (Said.Format own)
  desk_after trial d (Said.Launch pages) = other_desk d (Said.Launch pages)
  desk_after trial d (Said.Write page slot fill) = write_desk d page slot fill
  desk_after trial d (Said.Withdraw page) = other_desk d (Said.Withdraw page)
  desk_after trial d (Said.Erase slots) = erase_desk trial d slots
  desk_after trial d Said.Recover = other_desk d Said.Recover
  desk_after trial d Said.Cut = other_desk d Said.Cut
  desk_after trial d Said.Listing = other_desk d Said.Listing
  desk_after trial d Said.Malformed = other_desk d Said.Malformed

  unfoldable pub desk_cuts : (trial : Bool) → Desk → Said → List Bool
  desk_cuts trial d (Said.Format own) = []
  desk_cuts trial d (Said.Launch pages) = []
  desk_cuts trial d (Said.Write page slot fill) = write_cuts d page slot fill
  desk_cuts trial d (Said.Withdraw page) = []
  desk_cuts trial d (Said.Erase slots) = cuts_of_erase trial d slots
  desk_cuts trial d Said.Recover = []
  desk_cuts trial d Said.Cut = []
  desk_cuts trial d Said.Listing = []
  desk_cuts trial d Said.Malformed = []

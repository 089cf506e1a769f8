-- Each line of a script: what it leaves in the program's buffers follows what it leaves of the run and the reference model, and what is found at its cuts is the same.
use Prim.Native.Nat.{ℕ, zero, suc}
use Rattle.std.proofs.Common.{arith, sym, subst}
use Rattle.std.proofs.Math.Path.{◌≡◌, refl, ap}
use Rattle.std.specs.Prelude.{Option, Some}
use Rattle.std.proofs.lemmas.Option.{same_Some}
use mathlib.Core.List.{List, [], ◌∷◌, ◌++◌}
use Rattle.std.specs.Prelude.{Bool, true, cond, eqb, replicate}
use Rattle.std.proofs.Math.Bool.{false}
use Rattle.bounded.specs.Limits.{no_number, Widths}
use Rattle.sizes.specs.declared.Sizes.{Sizes}
use Rattle.record.specs.Flash.{Step}
use Rattle.line.specs.Line.{Said}
use Rattle.dispatch.specs.Dispatch.{accepted, line_outcome}
use Rattle.atomicity.specs.Call.{Call, with_state, with_flash, perform, planned_stages, flash_stages}
use Rattle.atomicity.specs.Run.{World, happens}
use Rattle.atomicity.specs.Model.{Told, Model, close_all, accept, learns}
use Rattle.atomicity.specs.Promise.{told}
use Rattle.everywhere.specs.Cuts.{Recorded, event_of, points_from, cuts_in, cuts_from, erase_outcome_by, erasing}
use Rattle.cuts.specs.Recording.{step_by}
use Rattle.recorded.specs.Desk.{Desk, settled_desk, erase_desk, other_desk, desk_after, desk_cuts}
use Rattle.recorded.specs.StepLaws.{lost_wiped}
use Rattle.cuts.specs.Followed.{Follows, unchanged, launch_follows, withdraw_follows, recover_follows, cut_follows}
use Rattle.cuts.specs.Stored.{world, erase_follows, erase_cuts_lem, write_volume, write_follows, write_cuts_lem}

module _ (widths : Widths) (sizes : Sizes) where
  none_either : (b : Bool) → cond {A = List (List Step)} b [] [] ≡ []
  none_either true = refl
  none_either false = refl

  -- a fill is a byte
  unfoldable pub Small : Said → Type 0
  Small (Said.Format own) = Unit {0}
  Small (Said.Launch pages) = Unit {0}
  Small (Said.Write page slot fill) = ¬ (fill ≡ no_number)
  Small (Said.Withdraw page) = Unit {0}
  Small (Said.Erase slots) = Unit {0}
  Small Said.Recover = Unit {0}
  Small Said.Cut = Unit {0}
  Small Said.Listing = Unit {0}
  Small Said.Malformed = Unit {0}

  module _ (trial : Bool) where
    -- A line carried out: where it leaves the run and the model, which the buffers follow, and what is found at its cuts, whatever comes behind it.
    pub record Went (x : World) (m : Model) (d : Desk) (says : Said) (steps : List Recorded) : Type 0 where
      pub world : World
      pub model : Model
      pub volume_is : world.volume ≡ (desk_after widths sizes trial d says).volume
      pub follows : Follows widths sizes model (desk_after widths sizes trial d says)
      pub goes_on : (rest : List Recorded) → cuts_from (erasing trial) widths sizes x m (steps ++ rest) ≡ desk_cuts widths sizes trial d says ++ cuts_from (erasing trial) widths sizes world model rest

    module _ (m : Model) (d : Desk) (f : Follows widths sizes m d) (b : Bool) where
      -- a line that records one step
      went_step :
          (says : Said) (r : Recorded) → (happens (erasing trial) widths sizes (world widths sizes d b) (event_of sizes r)).volume ≡ (desk_after widths sizes trial d says).volume
          → Follows widths sizes (learns m (told (erasing trial) widths sizes (world widths sizes d b) (event_of sizes r))) (desk_after widths sizes trial d says)
          → cuts_in (erasing trial) widths sizes (world widths sizes d b) m r ≡ desk_cuts widths sizes trial d says
          → Went (world widths sizes d b) m d says (r ∷ [])
      unfolding cuts_from
      went_step says r v h c =
          record {
            world = happens (erasing trial) widths sizes (world widths sizes d b) (event_of sizes r);
            model = learns m (told (erasing trial) widths sizes (world widths sizes d b) (event_of sizes r));
            volume_is = v;
            follows = h;
            goes_on = λ rest. ap (λ (l : List Bool). l ++ cuts_from (erasing trial) widths sizes (happens (erasing trial) widths sizes (world widths sizes d b) (event_of sizes r)) (learns m (told (erasing trial) widths sizes (world widths sizes d b) (event_of sizes r))) rest) c;
          }

      -- what it records is this
      went_as : (says : Said) (known steps : List Recorded) → ◌≡◌ {A = Option (List Recorded)} (Some known) (Some steps) → Went (world widths sizes d b) m d says known → Went (world widths sizes d b) m d says steps
      went_as says known steps e w = subst (λ (l : List Recorded). Went (world widths sizes d b) m d says l) (same_Some known steps e) w

      -- it alters no flash, so it has no cut
      uncut : (call : Call) → planned_stages (erasing trial) sizes d.volume call ≡ [] → cuts_in (erasing trial) widths sizes (world widths sizes d b) m (Recorded.Makes call) ≡ []
      unfolding cuts_in flash_stages points_from
      uncut call e = rw (e, none_either (eqb (perform (erasing trial) widths sizes d.volume call).answer 0))

      pub went : (says : Said) (steps : List Recorded) → step_by sizes says ≡ Some steps → Small says → Went (world widths sizes d b) m d says steps
      unfolding step_by Small event_of happens told learns accept cuts_in cuts_from perform with_state with_flash desk_after desk_cuts other_desk settled_desk erase_desk line_outcome accepted planned_stages
      went (Said.Format own) steps e s = absurd (let z : ◌≡◌ {A = ℕ} 0 1 = cc in omega arith)
      went (Said.Launch pages) steps e s =
          went_as (Said.Launch pages) _ steps e (went_step (Said.Launch pages) (Recorded.Makes (Call.Launch pages)) refl (launch_follows widths sizes m d f pages) (uncut (Call.Launch pages) refl))
      went (Said.Write page slot fill) steps e s =
          went_as (Said.Write page slot fill) _ steps e
          (went_step (Said.Write page slot fill) (Recorded.Makes (Call.Write page slot (replicate sizes.width fill))) (write_volume widths sizes m d f page slot fill s) (write_follows widths sizes m d f page slot fill s) (write_cuts_lem widths sizes m d f page slot fill s trial b))
      went (Said.Withdraw page) steps e s =
          went_as (Said.Withdraw page) _ steps e (went_step (Said.Withdraw page) (Recorded.Makes (Call.Withdraw page)) refl (withdraw_follows widths sizes m d f page) (uncut (Call.Withdraw page) refl))
      went (Said.Erase slots) steps e s =
          went_as (Said.Erase slots) _ steps e
          (went_step (Said.Erase slots) (Recorded.Makes (Call.Erase slots)) refl
          (subst (λ (x : Model). Follows widths sizes x (erase_desk widths sizes trial d slots)) (sym (learns_same (erase_outcome_by trial widths sizes d.volume slots).answer)) (erase_follows widths sizes m d f trial slots))
          (erase_cuts_lem widths sizes m d f trial b slots))
        where
          learns_same : (a : ℕ) → learns m (Told.Answered (Call.Erase slots) a) ≡ m
          learns_same zero = refl
          learns_same (suc a) = refl
      went Said.Recover steps e s =
          went_as Said.Recover _ steps e (went_step Said.Recover (Recorded.Makes Call.Recover) refl (recover_follows widths sizes m d f) (uncut Call.Recover refl))
      went Said.Cut steps e s =
          let l = lost_wiped sizes d.volume.state f.ready.fits.state_sized in
          went_as Said.Cut _ steps e
          (went_step Said.Cut Recorded.Cut (ap (λ (s : List ℕ). record { flash = d.volume.flash; state = s }) (sym l))
          (subst (λ (s : List ℕ). Follows widths sizes (close_all m) (settled_desk widths sizes false (record { flash = d.volume.flash; state = s }) d.entered d.kept)) (sym l) (cut_follows widths sizes m d f)) refl)
      went Said.Listing steps e s =
          went_as Said.Listing _ steps e
          (record { world = world widths sizes d b; model = m; volume_is = refl; follows = unchanged widths sizes m d f; goes_on = λ rest. refl })
      went Said.Malformed steps e s = absurd (let z : ◌≡◌ {A = ℕ} 0 1 = cc in omega arith)

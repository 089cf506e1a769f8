-- What is left after a sweep of a volume that a run reaches, how what it blanked is sorted into its erasures, and that recovery finds the same before it, after it, and after a crash in it.
use Rattle.std.specs.Prelude.{ℕ, ◌+◌, ◌*◌, ◌<◌, ◌≡◌, refl, Bool, false, length}
use Rattle.std.proofs.Common.{sym, ap, ◌∙◌}
use Rattle.std.proofs.Math.Path.{subst}
use mathlib.Core.List.{List}
use Rattle.std.proofs.Math.Bool.{true}
use Rattle.bounded.specs.Limits.{Widths}
use Rattle.bounded.specs.Choice.{never}
use Rattle.sizes.specs.declared.Layout.TheVariants.{FiveWords}
use Rattle.sizes.specs.declared.Sizes.{Sizes}
use Rattle.record.specs.declared.Record.{Record}
use Rattle.std.specs.Prelude.{Some}
use Rattle.record.specs.Slot.{slot_at, bytes_at}
use Rattle.record.specs.Flash.{Flash, Step, apply_all_in}
use Rattle.state.specs.State.{state_at}
use Rattle.state.specs.StateLaws.{facts_state_sound}
use Rattle.table.specs.Table.{table_sound}
use Rattle.rules.specs.Volume.{Volume}
use Rattle.rules.specs.Suggest.{suggestible}
use Rattle.upkeep.specs.Sweep.{sweep_stages, sweep_answer, sweep_outcome}
use Rattle.upkeep.specs.Swept.{Sorted}
use Rattle.rules.proofs.laws.Volume.{fits_test}
use Rattle.upkeep.proofs.laws.Clean.{sound_slots}
use Rattle.upkeep.proofs.laws.Sweep.{is_left, none_left}
use Rattle.upkeep.proofs.laws.Sorted.{sorted}
use Rattle.protocol.specs.Shared.{comm_of}
use Rattle.atomicity.specs.Family.{back_pointer}
use Rattle.atomicity.specs.Call.{Call, with_flash, perform, planned_stages}
use Rattle.atomicity.specs.Run.{Event, steps_cut_short, happens, started, after}
use Rattle.atomicity.specs.Model.{Model, fresh_model, accept}
use Rattle.atomicity.specs.Promise.{model_after}
use Rattle.atomicity.specs.Companions.{records_in, written_pages, Sweeps, Sweeping}
use Rattle.atomicity.proofs.BackPointer.{back_pointer_lem}
use Rattle.atomicity.proofs.steps.Invariant.{Known, Holding, known, unknown}
use Rattle.atomicity.proofs.steps.Stages.{answer_is, performs, accepted_stages}
use Rattle.atomicity.proofs.steps.Calls.{accepted}
use Rattle.atomicity.proofs.steps.Spared.{Kept, spares_kept}
use Rattle.atomicity.proofs.theorems.Promise.{reached}
use Rattle.atomicity.proofs.theorems.CleaningUnseen.{Recoverable, known_recoverable, same_found}
use Rattle.atomicity.proofs.theorems.Bare.{none_obsolete, bare_count}

module _ (widths : Widths) (sizes : Sizes) (v : Volume) (m : Model) (k : Known back_pointer_lem widths sizes v m) where
  -- the volume and the state are sound, so that a sweep is done
  sweep_done : sweep_answer widths sizes v ≡ 0
  unfolding sweep_answer
  sweep_done =
      let table : table_sound sizes.pages sizes.slots (slot_at v.flash.words) ≡ true =
      sound_slots sizes.pages sizes.slots (slot_at v.flash.words) (λ j r h e. (back_pointer_lem.shared _ _ _ _ k.live.core).all_sound r (bytes_at sizes.width v.flash.contents j) (j, h, e, refl)) in
      rw (sweep_answer, fits_test widths sizes v k.fits, table, facts_state_sound sizes.pages (state_at v.state) k.live.sound)

  swept_known : Known back_pointer_lem widths sizes (perform back_pointer widths sizes v Call.Sweep).left m
  unfolding accept answer_is back_pointer_lem
  swept_known = accepted back_pointer_lem widths sizes v m k Call.Sweep sweep_done

  count_left : records_in sizes.slots (slot_at (perform back_pointer widths sizes v Call.Sweep).left.flash.words) ≡ sizes.pages + written_pages sizes.pages (state_at v.state)
  unfolding perform with_flash suggestible back_pointer_lem
  count_left =
      let s = swept_known in
      bare_count sizes.width sizes.pages sizes.slots (sweep_outcome widths sizes v).left s.fits.flash_sized (state_at v.state) s.live.sound (back_pointer_lem.shared _ _ _ _ s.live.core) s.live.live
      (none_left widths sizes v sweep_done)

  -- what it leaves has no obsolete record, so that what it blanked is sorted into its erasures
  none_obsolete_left : (j : ℕ) (r : Record) → j < sizes.slots → slot_at (sweep_outcome widths sizes v).left.words j ≡ Some r → r.v < (state_at v.state r.p).committed → ⊥
  unfolding perform with_flash suggestible back_pointer_lem
  none_obsolete_left =
      let s = swept_known in
      none_obsolete sizes.width sizes.pages sizes.slots (sweep_outcome widths sizes v).left s.fits.flash_sized (state_at v.state) s.live.sound (back_pointer_lem.shared _ _ _ _ s.live.core) s.live.live
      (none_left widths sizes v sweep_done)

  swept_sorted : Sorted sizes v (perform back_pointer widths sizes v Call.Sweep).left.flash
  unfolding perform with_flash
  swept_sorted =
      subst (Sorted sizes v) (sym (is_left widths sizes v sweep_done))
      (sorted widths sizes v sweep_done (λ j r h e. none_obsolete_left j r h (ap (λ (f : Flash). slot_at f.words j) (is_left widths sizes v sweep_done) ∙ e)))

  -- a crash in it
  module _ (stage : ℕ) (done : ℕ → Bool) (state : List ℕ) (long : length state ≡ 4 * sizes.pages) where
    abbrev crashed : Volume
    crashed = (happens back_pointer widths sizes (record { volume = v; lost = false }) (Event.CrashIn Call.Sweep stage done state)).volume

    kept : Kept back_pointer_lem sizes (state_at v.state) m crashed.flash
    unfolding happens planned_stages answer_is back_pointer_lem
    kept =
        subst (λ (l : List (List Step)). Kept back_pointer_lem sizes (state_at v.state) m (apply_all_in FiveWords sizes.width v.flash (steps_cut_short stage done l))) (sym (accepted_stages back_pointer_lem widths sizes v Call.Sweep sweep_done))
        (spares_kept back_pointer_lem sizes (state_at v.state) m (sweep_stages sizes v) v.flash stage done (back_pointer_lem.sweeps.spares widths sizes v k.fits sweep_done) (record { sized = k.fits.flash_sized; live = k.live }))

    crash_recoverable : Recoverable back_pointer_lem widths sizes (comm_of (state_at v.state)) m.kept crashed
    unfolding happens
    crash_recoverable =
        record {
          fits = record { bounds = k.fits.bounds; allowed = k.fits.allowed; flash_sized = kept.sized; state_sized = long };
          apart = kept.live.apart;
          core = kept.live.core;
        }

  sweeps : Sweeps widths sizes v
  unfolding perform with_flash answer_is back_pointer_lem
  sweeps =
      record {
        answers = performs back_pointer_lem widths sizes v Call.Sweep ∙ sweep_done;
        records_left = count_left;
        sorted = swept_sorted;
        unseen = same_found back_pointer_lem widths sizes v (perform back_pointer widths sizes v Call.Sweep).left (known_recoverable back_pointer_lem widths sizes k) (known_recoverable back_pointer_lem widths sizes swept_known);
        unseen_cut = λ stage done state long. same_found back_pointer_lem widths sizes v (crashed stage done state long) (known_recoverable back_pointer_lem widths sizes k) (crash_recoverable stage done state long);
      }

pub sweeping : Sweeping
sweeping widths sizes v events p found = by (reached back_pointer_lem widths sizes v events p)
  where
    m : Model
    m = model_after back_pointer widths sizes (started back_pointer widths sizes v) (fresh_model sizes.width) events

    by : Holding back_pointer_lem widths sizes (after back_pointer widths sizes (started back_pointer widths sizes v) events) m → Sweeps widths sizes (after back_pointer widths sizes (started back_pointer widths sizes v) events).volume
    by (known f fits live) = sweeps widths sizes (after back_pointer widths sizes (started back_pointer widths sizes v) events).volume m (record { fits = fits; live = live })
    by (unknown lost fits l) = absurd (never lost found)

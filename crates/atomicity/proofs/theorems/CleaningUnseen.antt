-- Recovery straight before and after a cleaning finds the same.
use Rattle.std.specs.Prelude.{ℕ, List}
use Rattle.std.proofs.Common.{sym, ap, ◌∙◌}
use Rattle.std.proofs.Math.Path.{subst}
use Rattle.bounded.specs.Limits.{Widths}
use Rattle.bounded.specs.Choice.{on_eq, never}
use Rattle.outcome.specs.Outcome.{Outcome}
use Rattle.sizes.specs.declared.Sizes.{Sizes}
use Rattle.sizes.specs.Blocks.{NamedBlock}
use Rattle.record.specs.Slot.{slot_in}
use Rattle.state.specs.State.{state_at}
use Rattle.rules.specs.Volume.{Volume}
use Rattle.rules.specs.laws.Volume.{FitsIn}
use Rattle.protocol.specs.Shared.{comm_of}
use Rattle.atomicity.specs.Family.{Family}
use Rattle.atomicity.specs.Call.{Call, with_flash, perform}
use Rattle.atomicity.specs.Run.{started, after}
use Rattle.atomicity.specs.Model.{Model, fresh_model, accept}
use Rattle.atomicity.specs.Promise.{model_after}
use Rattle.atomicity.specs.Companions.{SameFound, CleaningUnseen}
use Rattle.atomicity.proofs.steps.Theory.{Theory}
use Rattle.atomicity.proofs.steps.Invariant.{Held, Known, Holding, known, unknown}
use Rattle.atomicity.proofs.steps.Stages.{answer_is, refused_leaves}
use Rattle.atomicity.proofs.steps.Recover.{recovers, found_versions}
use Rattle.atomicity.proofs.steps.Calls.{accepted}
use Rattle.atomicity.proofs.theorems.Promise.{reached}

module _ {F : Family} (T : Theory F) (widths : Widths) (sizes : Sizes) where
  -- what recovery rests on, with the committed versions and contents that it finds; of the state only the length plays a part
  pub record Recoverable (comm : ℕ → ℕ) (kept : ℕ → List ℕ) (v : Volume) : Type 0 where
    pub fits : FitsIn F.layout widths sizes v
    pub apart : T.Apart sizes.slots (slot_in F.layout v.flash.words)
    pub core : T.Core (Held F sizes.width sizes.slots v.flash) comm sizes.pages kept

  pub known_recoverable : {v : Volume} {m : Model} → Known T widths sizes v m → Recoverable (comm_of (state_at v.state)) m.kept v
  known_recoverable k = record { fits = k.fits; apart = k.live.apart; core = k.live.core }

  pub same_found : {comm : ℕ → ℕ} {kept : ℕ → List ℕ} (v w : Volume) → Recoverable comm kept v → Recoverable comm kept w → SameFound F widths sizes v w
  same_found v w k l =
      let rv = recovers T widths sizes v.flash k.fits.bounds k.fits.allowed k.fits.flash_sized k.apart k.core v.state k.fits.state_sized in
      let rw' = recovers T widths sizes w.flash l.fits.bounds l.fits.allowed l.fits.flash_sized l.apart l.core w.state l.fits.state_sized in
      record {
        answers = (rv.recover_answers_lem, rw'.recover_answers_lem);
        same_versions = λ p h.
            found_versions T widths sizes v.flash k.fits.bounds k.fits.allowed k.fits.flash_sized k.apart k.core v.state k.fits.state_sized p h
            ∙ sym (found_versions T widths sizes w.flash l.fits.bounds l.fits.allowed l.fits.flash_sized l.apart l.core w.state l.fits.state_sized p h);
        same_contents = λ page out h o. rv.reads_kept page out h o ∙ sym (rw'.reads_kept page out h o);
        both_read = λ page out h o. (ap (λ (r : Outcome (List ℕ)). r.answer) (rv.reads_kept page out h o), ap (λ (r : Outcome (List ℕ)). r.answer) (rw'.reads_kept page out h o));
      }

module _ {F : Family} (T : Theory F) (widths : Widths) (sizes : Sizes) (m : Model) where
  cleaned_known : (v : Volume) (block : NamedBlock) → Known T widths sizes v m → Known T widths sizes (perform F widths sizes v (Call.Clean block)).left m
  unfolding accept
  cleaned_known v block k =
      on_eq (answer_is T widths sizes v (Call.Clean block)) 0
      (λ e. accepted T widths sizes v m k (Call.Clean block) e)
      (λ n. subst (λ (x : Volume). Known T widths sizes x m) (sym (refused_leaves T widths sizes v (Call.Clean block) n)) k)

  pub clean_found : (v : Volume) (block : NamedBlock) → Known T widths sizes v m → SameFound F widths sizes v (perform F widths sizes v (Call.Clean block)).left
  unfolding perform with_flash
  clean_found v block k = same_found T widths sizes v (perform F widths sizes v (Call.Clean block)).left (known_recoverable T widths sizes k) (known_recoverable T widths sizes (cleaned_known v block k))

pub cleaning_unseen : {F : Family} (T : Theory F) → CleaningUnseen F
cleaning_unseen {F} T widths sizes v events p found block = by (reached T widths sizes v events p)
  where
    m : Model
    m = model_after F widths sizes (started F widths sizes v) (fresh_model sizes.width) events

    by : Holding T widths sizes (after F widths sizes (started F widths sizes v) events) m → SameFound F widths sizes (after F widths sizes (started F widths sizes v) events).volume (perform F widths sizes (after F widths sizes (started F widths sizes v) events).volume (Call.Clean block)).left
    by (known f fits live) = clean_found T widths sizes m (after F widths sizes (started F widths sizes v) events).volume block (record { fits = fits; live = live })
    by (unknown lost fits l) = absurd (never lost found)

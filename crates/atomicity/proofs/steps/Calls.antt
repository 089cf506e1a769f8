-- Every accepted call keeps the invariant, by its step.
use Rattle.std.specs.Prelude.{ℕ, ◌≤◌, ◌<◌, ◌≡◌, refl, true, length}
use Rattle.std.proofs.Common.{arith, sym}
use Rattle.std.proofs.Math.Path.{subst}
use mathlib.Core.List.{List, flatten}
use Rattle.bounded.specs.Limits.{no_number, Widths}
use Rattle.outcome.specs.Outcome.{Outcome}
use Rattle.sizes.specs.declared.Sizes.{Sizes}
use Rattle.record.specs.Slot.{slot_in}
use Rattle.record.specs.SlotLaws.{is_blank_exactly}
use Rattle.record.specs.Flash.{Flash, Step, apply_in, apply_all_in}
use Rattle.record.specs.FlashLaws.{SizedIn, store_sized}
use Rattle.state.specs.State.{state_at}
use Rattle.state.specs.StateLaws.{length_state_words}
use Rattle.state.specs.Change.{launched, withdrawn, after_write}
use Rattle.state.specs.CycleLaws.{Flies}
use Rattle.rules.specs.Volume.{Volume}
use Rattle.rules.specs.Launch.{launch_answer}
use Rattle.rules.specs.Withdraw.{withdraw_answer}
use Rattle.rules.proofs.laws.Outcomes.{launch_done, withdraw_done}
use Rattle.rules.proofs.laws.Accepted.{launch_tests, withdraw_tests}
use Rattle.atomicity.specs.Family.{Family}
use Rattle.atomicity.specs.Call.{Call, with_state, with_flash, perform}
use Rattle.atomicity.specs.Model.{Model, accept, enter}
use Rattle.atomicity.proofs.steps.Theory.{Theory, SparingCall, keeping, written, spared_done, write_done, recover_done}
use Rattle.atomicity.proofs.steps.Stages.{answer_is, cut_past_last}
use Rattle.atomicity.proofs.steps.Invariant.{Known}
use Rattle.atomicity.proofs.steps.StateWords.{live_words}
use Rattle.atomicity.proofs.steps.Launch.{listed_some, listed_launchable, launched_live}
use Rattle.atomicity.proofs.steps.Withdraw.{withdrawn_live}
use Rattle.atomicity.proofs.steps.Sparing.{Spares}
use Rattle.atomicity.proofs.steps.Spared.{Kept, spares_kept}
use Rattle.atomicity.proofs.steps.Recover.{accepts, found_fits, found_again}
use Rattle.atomicity.proofs.steps.Write.{written_live}

module _ {F : Family} (T : Theory F) (widths : Widths) (sizes : Sizes) (v : Volume) (m : Model) (k : Known T widths sizes v m) where
  small : sizes.pages ≤ no_number
  small = let l = k.fits.bounds.pages_most in omega arith

  launch_accepted : (pages : List ℕ) → launch_answer widths sizes v.state pages ≡ 0 → Known T widths sizes (perform F widths sizes v (Call.Launch pages)).left (accept m (Call.Launch pages))
  unfolding perform with_state
  launch_accepted pages e =
      let a = launch_tests widths sizes v.state pages e in
      let ok = listed_launchable sizes.pages (state_at v.state) pages k.live.sound a.listed a.none_flying a.none_used_up in
      let l = launched_live T sizes small v.flash (state_at v.state) m k.live pages (listed_some sizes.pages pages a.listed) ok in
      subst (λ (o : Outcome (List ℕ)). Known T widths sizes (record { flash = v.flash; state = o.left }) (accept m (Call.Launch pages))) (sym (launch_done widths sizes v.state pages e))
      (record {
        fits = record { bounds = k.fits.bounds; allowed = k.fits.allowed; flash_sized = k.fits.flash_sized; state_sized = length_state_words sizes.pages (launched pages (state_at v.state)) };
        live = live_words T sizes v.flash (launched pages (state_at v.state)) (accept m (Call.Launch pages)) l;
      })

  withdraw_accepted : (page : ℕ) → withdraw_answer widths sizes v.state page ≡ 0 → Known T widths sizes (perform F widths sizes v (Call.Withdraw page)).left (accept m (Call.Withdraw page))
  unfolding perform with_state
  withdraw_accepted page e =
      let a = withdraw_tests widths sizes v.state page e in
      let y : Flies sizes.pages (state_at v.state) page = record { below = a.page_below; flies = a.flying } in
      subst (λ (o : Outcome (List ℕ)). Known T widths sizes (record { flash = v.flash; state = o.left }) (accept m (Call.Withdraw page))) (sym (withdraw_done widths sizes v.state page e))
      (record {
        fits = record { bounds = k.fits.bounds; allowed = k.fits.allowed; flash_sized = k.fits.flash_sized; state_sized = length_state_words sizes.pages (withdrawn sizes.pages (state_at v.state) page) };
        live = live_words T sizes v.flash (withdrawn sizes.pages (state_at v.state) page) (accept m (Call.Withdraw page)) (withdrawn_live T sizes v.flash (state_at v.state) m k.live page y);
      })

  -- a call that alters the flash alone, by stages that lose none but records that may be erased
  spares_accepted :
      (stages : List (List Step))
      → Spares (keeping T) sizes.width sizes.slots (state_at v.state) v.flash stages
      → Known T widths sizes (record { flash = apply_all_in F.layout sizes.width v.flash (flatten stages); state = v.state }) m
  spares_accepted stages s =
      let c = subst (λ (l : List Step). Kept T sizes (state_at v.state) m (apply_all_in F.layout sizes.width v.flash l)) (cut_past_last (length stages) (λ i. true) stages (omega arith))
      (spares_kept T sizes (state_at v.state) m stages v.flash (length stages) (λ i. true) s (record { sized = k.fits.flash_sized; live = k.live })) in
      record {
        fits = record { bounds = k.fits.bounds; allowed = k.fits.allowed; flash_sized = c.sized; state_sized = k.fits.state_sized };
        live = c.live;
      }

  spared_accepted :
      {outcome : Widths → Sizes → Volume → Outcome Flash} {stages : Sizes → Volume → List (List Step)} (C : SparingCall (keeping T) outcome stages)
      → C.answer widths sizes v ≡ 0
      → Known T widths sizes (record { flash = (outcome widths sizes v).left; state = v.state }) m
  spared_accepted {outcome} {stages} C e =
      subst (λ (f : Flash). Known T widths sizes (record { flash = f; state = v.state }) m) (sym (spared_done C widths sizes v e))
      (spares_accepted (stages sizes v) (C.spares widths sizes v k.fits e))

  write_accepted : (page slot : ℕ) (bytes : List ℕ) → T.write_answer widths sizes v page slot bytes ≡ 0 → Known T widths sizes (written F sizes v page slot bytes) (enter page bytes m.kept m.rings)
  write_accepted page slot bytes e =
      let a = T.write_tested widths sizes v page slot bytes e in
      let y : Flies sizes.pages (state_at v.state) page = record { below = a.page_below; flies = a.flying } in
      let free = (is_blank_exactly (slot_in F.layout v.flash.words slot)).0 a.free in
      record {
        fits = record {
          bounds = k.fits.bounds;
          allowed = k.fits.allowed;
          flash_sized = stored_sized page slot bytes a.slot_below a.whole;
          state_sized = length_state_words sizes.pages (after_write sizes.pages (state_at v.state) page);
        };
        live = live_words T sizes (apply_in F.layout sizes.width v.flash (Step.Store slot (F.plan (state_at v.state) page) bytes)) (after_write sizes.pages (state_at v.state) page) (enter page bytes m.kept m.rings)
            (written_live T sizes v.flash k.fits.flash_sized (state_at v.state) m k.live page slot bytes y a.unwritten a.slot_below a.whole free (T.write_fresh widths sizes v page slot bytes e _));
      }
    where
      stored_sized : (page slot : ℕ) (bytes : List ℕ) → slot < sizes.slots → length bytes ≡ sizes.width → SizedIn F.layout sizes.width sizes.slots (apply_in F.layout sizes.width v.flash (Step.Store slot (F.plan (state_at v.state) page) bytes))
      stored_sized page slot bytes h e = store_sized F.layout sizes.width sizes.slots v.flash k.fits.flash_sized slot h (F.plan (state_at v.state) page) bytes e

  recover_accepted : Known T widths sizes (perform F widths sizes v Call.Recover).left (accept m Call.Recover) × (T.recover_answer widths sizes v ≡ 0)
  unfolding perform with_state accept
  recover_accepted =
      let e = accepts T widths sizes v.flash k.fits.bounds k.fits.allowed k.fits.flash_sized k.live.apart k.live.core v.state k.fits.state_sized in (
        subst (λ (o : Outcome (List ℕ)). Known T widths sizes (record { flash = v.flash; state = o.left }) (accept m Call.Recover)) (sym (recover_done T widths sizes v e))
            (record {
              fits = found_fits T widths sizes v.flash k.fits.bounds k.fits.allowed k.fits.flash_sized k.live.apart k.live.core v.state k.fits.state_sized;
              live = found_again T widths sizes v.flash k.fits.bounds k.fits.allowed k.fits.flash_sized k.live.apart k.live.core v.state k.fits.state_sized m refl;
            }),
        e,
      )

  -- an accepted call keeps the invariant, the model told of it
  pub accepted : (call : Call) → answer_is T widths sizes v call ≡ 0 → Known T widths sizes (perform F widths sizes v call).left (accept m call)
  unfolding answer_is perform with_flash accept
  accepted (Call.Launch pages) e = launch_accepted pages e
  accepted (Call.Write page slot bytes) e =
      subst (λ (o : Outcome Volume). Known T widths sizes o.left (enter page bytes m.kept m.rings)) (sym (write_done T widths sizes v page slot bytes e)) (write_accepted page slot bytes e)
  accepted (Call.Withdraw page) e = withdraw_accepted page e
  accepted (Call.Erase slots) e = spared_accepted (T.erases slots) e
  accepted Call.Recover e = recover_accepted.0
  accepted (Call.Clean block) e = spared_accepted (T.cleans block) e
  accepted Call.Sweep e = spared_accepted T.sweeps e

-- Writing keeps the invariant: one planned record more, and its ring stays open or is completed.
use Rattle.std.specs.Prelude.{ℕ, ◌<◌, ◌≡◌, refl, List, true, false, length}
use Rattle.std.proofs.Common.{sym, ap, ◌∙◌, subst}
use Rattle.bounded.specs.Choice.{on_test}
use Rattle.sizes.specs.declared.Sizes.{Sizes}
use Rattle.record.specs.declared.Record.{Record}
use Rattle.std.specs.Prelude.{None}
use Rattle.record.specs.Slot.{slot_in, bytes_at}
use Rattle.record.specs.SlotLaws.{Storable}
use Rattle.record.specs.Flash.{Flash, Step, apply_in}
use Rattle.record.specs.FlashLaws.{SizedIn}
use Rattle.state.specs.declared.PageState.{PageState}
use Rattle.state.specs.State.{is_written}
use Rattle.state.specs.Change.{marked, completes, completed, after_write}
use Rattle.state.specs.CycleLaws.{Flies}
use Rattle.state.specs.ChangeLaws.{after_write_sound}
use Rattle.state.specs.CompletionLaws.{after_write_done, after_write_not}
use Rattle.protocol.specs.View.{View, pointing_view}
use Rattle.protocol.specs.Shared.{plan}
use Rattle.protocol.proofs.Stored.{Writes, plan_page, plan_version, not_there}
use Rattle.protocol.proofs.OneMore.{live_more}
use Rattle.protocol.proofs.Completed.{live_completed}
use Rattle.protocol.proofs.WriteSteps.{missing_page, marks_of, completes_with}
use Rattle.atomicity.specs.Family.{Family}
use Rattle.atomicity.specs.Model.{Model, enter}
use Rattle.atomicity.proofs.rings.Write.{write_open_kept, write_open_match, write_open_entered, write_done_own, write_done_cycle, write_done_other, write_done_match, write_done_entered}
use Rattle.atomicity.proofs.steps.Theory.{Theory}
use Rattle.atomicity.proofs.steps.Invariant.{Held, Live}
use Rattle.atomicity.proofs.steps.Storing.{store_adds, store_table}

module _ {F : Family} (T : Theory F) (sizes : Sizes) (f : Flash) (size : SizedIn F.layout sizes.width sizes.slots f) (st : ℕ → PageState) (m : Model) (l : Live T sizes f st m)
    (page slot : ℕ) (bytes : List ℕ) (y : Flies sizes.pages st page) (unwritten : is_written (st page) ≡ false)
    (inside : slot < sizes.slots) (whole : length bytes ≡ sizes.width) (free : slot_in F.layout f.words slot ≡ None)
    (fresh : T.Fresh (Held F sizes.width sizes.slots f) st page) where
  abbrev view : View Record
  view = pointing_view T.back

  abbrev after : Flash
  after = apply_in F.layout sizes.width f (Step.Store slot (plan view st page) bytes)

  storable : Storable F.layout (plan view st page)
  storable = T.plan_storable sizes.pages st l.sound page y

  writes : Writes view sizes.pages (Held F sizes.width sizes.slots f) (Held F sizes.width sizes.slots after) st page bytes
  writes =
      record {
        state = l.sound;
        flies = y;
        unwritten = unwritten;
        plan_sound = T.plan_sound sizes.pages st l.sound page y;
        adds = store_adds F sizes.width sizes.slots f size slot inside (plan view st page) bytes whole storable free;
      }

  after_apart : T.Apart sizes.slots (slot_in F.layout after.words)
  after_apart =
      subst (T.Apart sizes.slots) (sym (store_table F sizes.width sizes.slots f size slot inside (plan view st page) bytes whole storable free))
      (T.apart_stored sizes.slots (slot_in F.layout f.words) slot (plan view st page)
      (λ j x h e p v. not_there view writes (T.shared _ _ _ _ l.core) l.live x (bytes_at sizes.width f.contents j) (j, h, e, refl) (p ∙ plan_page view st page) (v ∙ plan_version view st page))
      l.apart)

  abbrev model : Model
  model = enter page bytes m.kept m.rings

  open_live : completes sizes.pages st page ≡ false → Live T sizes after (after_write sizes.pages st page) model
  open_live e =
      let same : (q : ℕ) → q < sizes.pages → after_write sizes.pages st page q ≡ marked st page q = λ q h. after_write_not sizes.pages st l.sound page y e q in
      let marks = marks_of sizes.pages st l.sound page y same (write_open_entered sizes.pages st m.rings l.sound l.rings page y bytes m.kept e) in
      record {
        sound = after_write_sound sizes.pages st l.sound page y;
        apart = after_apart;
        core = T.same _ _ _ _ _ _ _ (record {
          forth = λ r b h. h;
          back = λ r b h. h;
          same_comm = λ q h. sym (marks.same_committed q h);
          same_kept = λ q h. sym (ap (λ (k : ℕ → List ℕ). k q) (write_open_kept sizes.pages st m.rings l.sound l.rings page y bytes m.kept e));
        }) (T.more _ _ _ _ _ _ _ _ writes l.core l.live fresh (missing_page sizes.pages st l.sound page y e));
        live = live_more view writes marks (T.shared _ _ _ _ l.core) l.live;
        rings = write_open_match sizes.pages st m.rings l.sound l.rings page y bytes m.kept e;
      }

  done_live : completes sizes.pages st page ≡ true → Live T sizes after (after_write sizes.pages st page) model
  done_live e =
      let same : (q : ℕ) → q < sizes.pages → after_write sizes.pages st page q ≡ completed sizes.pages st page q = λ q h. after_write_done sizes.pages st l.sound page y e q in
      let r = l.rings in
      let c = completes_with sizes.pages st l.sound page y e same
      (write_done_own sizes.pages st m.rings l.sound r page y bytes m.kept e)
      (write_done_cycle sizes.pages st m.rings l.sound r page y bytes m.kept e)
      (write_done_other sizes.pages st m.rings l.sound r page y bytes m.kept e)
      (write_done_entered sizes.pages st m.rings l.sound r page y bytes m.kept e) in
      record {
        sound = after_write_sound sizes.pages st l.sound page y;
        apart = after_apart;
        core = T.completed _ _ _ _ _ _ _ _ _ _ _ _ writes c l.core l.live fresh;
        live = live_completed view writes c (T.shared _ _ _ _ l.core) l.live;
        rings = write_done_match sizes.pages st m.rings l.sound r page y bytes m.kept e;
      }

  pub written_live : Live T sizes (apply_in F.layout sizes.width f (Step.Store slot (F.plan st page) bytes)) (after_write sizes.pages st page) model
  written_live =
      subst (λ (r : Record). Live T sizes (apply_in F.layout sizes.width f (Step.Store slot r bytes)) (after_write sizes.pages st page) model) (sym (T.plan_is st page))
      (on_test (completes sizes.pages st page) done_live open_live)

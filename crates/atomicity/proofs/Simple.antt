-- Records without a back pointer (Simple Cyclic Commit), document 02, wish 5, are a family that runs can be shown of.
use Rattle.std.specs.Prelude.{ℕ, ◌<◌, ◌≡◌, refl, get_or}
use Rattle.std.proofs.Common.{arith, sym, ap, ◌∙◌, inr}
use mathlib.Core.List.{List, [], ◌∷◌, append-nil, flatten}
use Rattle.bounded.specs.Limits.{Widths}
use Rattle.bounded.specs.Choice.{on_eq}
use Rattle.bounded.specs.Parts.{update}
use Rattle.bounded.specs.PartsLaws.{update_same, update_other}
use Rattle.bounded.specs.Members.{member_at}
use Rattle.outcome.specs.Outcome.{settled}
use Rattle.outcome.specs.OutcomeLaws.{settled_refused}
use Rattle.sizes.specs.declared.Layout.TheVariants.{FourWords}
use Rattle.sizes.specs.declared.Sizes.{Sizes}
use Rattle.sizes.proofs.SizesLaws.{sizes_test, words_fit_in_lem, state_fits_exactly}
use Rattle.sizes.specs.Lists.{list_facts}
use Rattle.record.specs.declared.Record.{Record}
use Rattle.record.specs.Slot.{Slot}
use Rattle.std.specs.Prelude.{Some}
use Rattle.record.specs.Slot.{slot_in}
use Rattle.record.specs.SlotLaws.{sound_facts, holds_one}
use Rattle.record.specs.Flash.{Step, apply_all_in}
use Rattle.record.specs.FlashLaws.{members_below}
use Rattle.state.specs.State.{state_at}
use Rattle.rules.specs.Volume.{Volume}
use Rattle.rules.specs.Erase.{erase_steps}
use Rattle.rules.specs.Simple.{simple_recovered}
use Rattle.rules.specs.laws.Volume.{FitsIn}
use Rattle.rules.specs.SimpleCalls.{simple_plan_of, simple_write_answer, simple_write_change, simple_write_outcome, simple_erase_answer, simple_erase_outcome, simple_links_of, simple_recover_answer, simple_recover_outcome}
use Rattle.rules.proofs.laws.Simple.{simple_may_erase_all_lem}
use Rattle.rules.proofs.laws.SimpleAccepted.{simple_write_tests, simple_erase_tests}
use Rattle.protocol.specs.View.{NoTwins, planned_record_back}
use Rattle.protocol.specs.Shared.{SharedCore}
use Rattle.protocol.proofs.RecoverAnswers.{table_sound_lem, all_have_record, no_clash}
use Rattle.protocol.specs.simple.Core.{simple_view, SimpleCore}
use Rattle.protocol.proofs.simple.SameSet.{simple_same}
use Rattle.protocol.proofs.simple.Write.{NotBuried, simple_planned_sound, not_buried, simple_more, simple_completed}
use Rattle.protocol.proofs.simple.Erase.{SimplePermitted, SimpleErased, simple_may_erase_permitted, simple_fewer, simple_live_erased}
use Rattle.protocol.proofs.simple.Recovers.{simple_walks_end, simple_has_committed, simple_version_found}
use Rattle.bounded.specs.BelowLaws.{all_of}
use Rattle.atomicity.specs.Family.{no_such_call, simple}
use Rattle.atomicity.proofs.steps.Sparing.{Pairs, ErasedBy, Spares, blanking_spares}
use Rattle.atomicity.proofs.steps.Theory.{Theory}

-- nothing is exposed where every version is 0
pub at_start : (R : Pairs) (P : ℕ) (kept : ℕ → List ℕ) → SharedCore simple_view R (λ p. 0) P kept → ((r : Record) (b : List ℕ) → R r b → (r.v ≡ 0) × (r.nv ≡ 0)) → SimpleCore R (λ p. 0) P kept
at_start R P kept shared zero =
    record {
      shared = shared;
      own = record {
        exposed_highest = λ r s b d h i x. absurd (let v = (zero r b h).0 in omega arith);
        exposed_ahead = λ r b h x. absurd (let v = (zero r b h).0 in omega arith);
      };
    }

pub erased_of : {R R' : Pairs} {st : ℕ → _} → ErasedBy (λ R st r. SimplePermitted st r) R R' st → SimpleErased R R' st
erased_of e = record { fewer = e.fewer; finds_before = e.finds_before; finds = e.finds; stays_or_permitted = e.stays_or_permitted }

-- a record more, of another page or version than each
pub stored_apart : (S : ℕ) (t : ℕ → Slot) (k : ℕ) (r : Record) → ((j : ℕ) (x : Record) → j < S → t j ≡ Some x → x.p ≡ r.p → x.v ≡ r.v → ⊥) → NoTwins S t → NoTwins S (update t k (Some r))
stored_apart S t k r new apart i j a b li lj ea eb p v =
    on_eq i k
    (λ qi. on_eq j k
    (λ qj. qi ∙ sym qj)
    (λ dj. let ar : a ≡ r = is_new i a qi ea in
    absurd (new j b lj (sym (update_other t k (Some r) j dj) ∙ eb) (sym p ∙ ap (λ (x : Record). x.p) ar) (sym v ∙ ap (λ (x : Record). x.v) ar))))
    (λ di. on_eq j k
    (λ qj. let br : b ≡ r = is_new j b qj eb in
    absurd (new i a li (sym (update_other t k (Some r) i di) ∙ ea) (p ∙ ap (λ (x : Record). x.p) br) (v ∙ ap (λ (x : Record). x.v) br)))
    (λ dj. apart i j a b li lj (sym (update_other t k (Some r) i di) ∙ ea) (sym (update_other t k (Some r) j dj) ∙ eb) p v))
  where
    is_new : (j : ℕ) (x : Record) → j ≡ k → update t k (Some r) j ≡ Some x → x ≡ r
    is_new j x q e = holds_one (ap (update t k (Some r)) (sym q) ∙ e) (update_same t k (Some r))

-- an erasure
pub simple_erase_spares :
    (widths : Widths) (sizes : Sizes) (v : Volume) (slots : List ℕ)
    → FitsIn FourWords widths sizes v
    → simple_erase_answer widths sizes v slots ≡ 0
    → Spares (record { layout = FourWords; Permitted = λ R st r. SimplePermitted st r; Apart = NoTwins }) sizes.width sizes.slots (state_at v.state) v.flash (erase_steps slots ∷ [])
unfolding erase_steps
simple_erase_spares widths sizes v slots fits e =
    blanking_spares (record { layout = FourWords; Permitted = λ R st r. SimplePermitted st r; Apart = NoTwins }) sizes.width sizes.slots (state_at v.state) v.flash fits.flash_sized slots
    (record {
      inside = members_below sizes.slots slots (list_facts sizes.slots slots (simple_erase_tests widths sizes v slots e).listed).in_range_lem;
      allowed = λ k r m h.
          let i = member_at slots k m in
          inr (simple_may_erase_permitted (slot_in FourWords v.flash.words) (state_at v.state) (get_or slots i.0 0) r
          ((simple_may_erase_all_lem _ _ slots).0 (simple_erase_tests widths sizes v slots e).permitted i.0 i.1) (ap (slot_in FourWords v.flash.words) i.2 ∙ h));
      apart_fewer = λ t t' sub apart j k a b lj lk ea eb. apart j k a b lj lk (sub j a ea) (sub k b eb);
    })

unfoldable pub simple_theory : Theory simple
unfolding flatten no_such_call simple_plan_of simple_write_outcome simple_write_change simple_erase_outcome simple_recover_answer simple_recover_outcome simple_recovered
simple_theory =
    record {
      back = λ u c. 0;
      Core = SimpleCore;
      shared = λ R comm P kept core. core.shared;
      same = λ P R R' comm comm' kept kept' s core. simple_same s core;
      at_start = at_start;
      plan_is = λ st p. refl;
      plan_sound = simple_planned_sound;
      plan_storable = λ P st sound p f. ((sound_facts P _ (simple_planned_sound P st sound p f)).v_most, planned_record_back p (st p).used 0 (st p).next (st (st p).next).used);
      Fresh = NotBuried;
      more = λ P R R' st p bytes kept Entered writes core live fresh gap. simple_more writes core live fresh gap;
      completed = λ P R R' st st' p bytes cycle kept kept' Entered Entered' writes completes core live fresh. simple_completed writes core live fresh completes;
      write_answer = simple_write_answer;
      write_is = λ widths sizes v page slot bytes. refl;
      write_tested = λ widths sizes v page slot bytes e.
          let a = simple_write_tests widths sizes v page slot bytes e in
          record { whole = a.whole; page_below = a.page_below; slot_below = a.slot_below; flying = a.flying; unwritten = a.unwritten; free = a.free };
      write_fresh = λ widths sizes v page slot bytes e contents. not_buried _ _ contents _ page (simple_write_tests widths sizes v page slot bytes e).none_buried;
      Apart = NoTwins;
      apart_at_first = λ S t a. a;
      apart_stored = stored_apart;
      Permitted = λ R st r. SimplePermitted st r;
      fewer = λ P R R' st kept e core. simple_fewer (erased_of e) core;
      live_fewer = λ P R R' st kept Entered e core state live. simple_live_erased (erased_of e) state live;
      erases = λ slots. record {
        answer = λ widths sizes v. simple_erase_answer widths sizes v slots;
        outcome_is = λ widths sizes v. ap (λ (l : List Step). settled (simple_erase_answer widths sizes v slots) 0 0 v.flash (apply_all_in FourWords sizes.width v.flash l)) (sym (append-nil (erase_steps slots)));
        spares = λ widths sizes v. simple_erase_spares widths sizes v slots;
      };
      cleans = λ block. record { answer = λ widths sizes v. 6; outcome_is = λ widths sizes v. sym (settled_refused 6 0 0 v.flash (apply_all_in FourWords sizes.width v.flash []) (λ e. omega arith)); spares = λ widths sizes v fits e. absurd (omega arith) };
      sweeps = record { answer = λ widths sizes v. 6; outcome_is = λ widths sizes v. sym (settled_refused 6 0 0 v.flash (apply_all_in FourWords sizes.width v.flash []) (λ e. omega arith)); spares = λ widths sizes v fits e. absurd (omega arith) };
      recover_answer = λ widths sizes v. simple_recover_answer widths sizes v.flash.words v.state;
      links = simple_links_of;
      recover_is = λ widths sizes v. refl;
      recover_accepts = λ widths sizes v comm kept fits apart core.
          rw (simple_recover_answer, sizes_test widths sizes fits.bounds fits.allowed, (words_fit_in_lem FourWords sizes.slots v.flash.words).1 fits.flash_sized.words_sized, (state_fits_exactly sizes.pages v.state).1 fits.state_sized, table_sound_lem (λ u c. 0) core.shared, no_clash _ _ apart, all_have_record (λ u c. 0) core.shared, simple_walks_end core, all_of _ _ (simple_has_committed core));
      committed_found_lem = λ P S t bytes comm kept core p h. simple_version_found core p h;
    }

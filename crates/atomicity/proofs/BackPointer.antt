-- Document 01's records, with a back pointer, are a family that runs can be shown of.
use Rattle.std.specs.Prelude.{ℕ, ◌≡◌, refl}
use Rattle.std.proofs.Common.{arith, sym, ap}
use mathlib.Core.List.{List, [], ◌∷◌, ◌++◌, map, append-nil, flatten}
use Rattle.outcome.specs.Outcome.{settled}
use Rattle.sizes.specs.declared.Block.{Block}
use Rattle.sizes.specs.declared.Layout.TheVariants.{FiveWords}
use Rattle.sizes.specs.declared.Sizes.{Sizes}
use Rattle.sizes.specs.Blocks.{block_at}
use Rattle.record.specs.declared.Record.{Record}
use Rattle.record.specs.SlotLaws.{sound_facts}
use Rattle.record.specs.Flash.{Step, apply_all_in}
use Rattle.rules.specs.Volume.{Volume}
use Rattle.rules.specs.Write.{plan_of, write_answer, write_step, write_change, write_outcome}
use Rattle.rules.specs.Erase.{erase_steps, erase_answer, erase_outcome}
use Rattle.upkeep.specs.Sweep.{sweep_steps, sweep_answer, sweep_outcome}
use Rattle.upkeep.specs.Clean.{clean_copies, clean_blanks, clean_steps, clean_stages, clean_answer, clean_outcome}
use Rattle.rules.specs.Recover.{links_of, recovered, recover_answer, recover_outcome}
use Rattle.rules.proofs.laws.Accepted.{write_tests}
use Rattle.protocol.specs.View.{record_view}
use Rattle.protocol.specs.Shared.{SharedCore}
use Rattle.protocol.specs.BackPointer.{Core}
use Rattle.protocol.specs.SameSet.{core_same}
use Rattle.protocol.proofs.OneMore.{core_more}
use Rattle.protocol.proofs.CompletedCore.{core_completed}
use Rattle.protocol.specs.Permitted.{Permitted}
use Rattle.protocol.proofs.Fewer.{Erased}
use Rattle.protocol.proofs.FewerCore.{core_fewer, live_erased}
use Rattle.protocol.proofs.WriteSteps.{planned_sound}
use Rattle.protocol.proofs.Recovers.{committed_found_lem}
use Rattle.protocol.proofs.RecoverAnswers.{recover_accepts}
use Rattle.atomicity.specs.Family.{back_pointer}
use Rattle.atomicity.proofs.steps.Sparing.{Pairs, ErasedBy}
use Rattle.atomicity.proofs.steps.Cleaning.{erase_spares, clean_spares, sweep_spares}
use Rattle.atomicity.proofs.steps.Theory.{Theory}

-- nothing is exposed where every version is 0
pub at_start : (R : Pairs) (P : ℕ) (kept : ℕ → List ℕ) → SharedCore record_view R (λ p. 0) P kept → ((r : Record) (b : List ℕ) → R r b → (r.v ≡ 0) × (r.nv ≡ 0)) → Core R (λ p. 0) P kept
at_start R P kept shared zero =
    record {
      shared = shared;
      own = record {
        exposed_back = λ r b h x. absurd (let v = (zero r b h).0 in omega arith);
        committed_clear = λ r K b d h i e s. let v = (zero r b h).1 in let a = s.above_c in omega arith;
        exposed_link = λ r b h x. absurd (let v = (zero r b h).0 in omega arith);
      };
    }

pub erased_of : {R R' : Pairs} {st : ℕ → _} → ErasedBy Permitted R R' st → Erased R R' st
erased_of e = record { fewer = e.fewer; finds_before = e.finds_before; finds = e.finds; stays_or_permitted = e.stays_or_permitted }

-- the stages of a cleaning are its steps
pub steps_in_stages : (sizes : Sizes) (v : Volume) (block : Block) → clean_steps sizes v block ≡ flatten (clean_stages sizes v block)
unfolding clean_steps clean_stages flatten
steps_in_stages sizes v block = by (clean_copies sizes v block)
  where
    by : (copies : List Step) → copies ++ clean_blanks sizes v block ≡ flatten (map (λ s. s ∷ []) copies ++ (clean_blanks sizes v block ∷ []))
    by [] = sym (append-nil (clean_blanks sizes v block))
    by (s ∷ copies) = ap (λ (l : List Step). s ∷ l) (by copies)

unfoldable pub back_pointer_lem : Theory back_pointer
unfolding plan_of write_outcome write_change write_step erase_outcome clean_outcome sweep_outcome sweep_steps recover_outcome recovered flatten
back_pointer_lem =
    record {
      back = λ u c. c;
      Core = Core;
      shared = λ R comm P kept core. core.shared;
      same = λ P R R' comm comm' kept kept' s core. core_same s core;
      at_start = at_start;
      plan_is = λ st p. refl;
      plan_sound = planned_sound;
      plan_storable = λ P st sound p f. (sound_facts P _ (planned_sound P st sound p f)).v_most;
      Fresh = λ R st p. Unit {0};
      more = λ P R R' st p bytes kept Entered writes core live fresh gap. core_more writes core live gap;
      completed = λ P R R' st st' p bytes cycle kept kept' Entered Entered' writes completes core live fresh. core_completed writes completes core live;
      write_answer = write_answer;
      write_is = λ widths sizes v page slot bytes. refl;
      write_tested = λ widths sizes v page slot bytes e.
          let a = write_tests widths sizes v page slot bytes e in
          record { whole = a.whole; page_below = a.page_below; slot_below = a.slot_below; flying = a.flying; unwritten = a.unwritten; free = a.free };
      write_fresh = λ widths sizes v page slot bytes e contents. tt;
      Apart = λ S t. Unit {0};
      apart_at_first = λ S t a. tt;
      apart_stored = λ S t k r none a. tt;
      Permitted = Permitted;
      fewer = λ P R R' st kept e core. core_fewer (erased_of e) core;
      live_fewer = λ P R R' st kept Entered e core state live. live_erased (erased_of e) core state live;
      erases = λ slots. record {
        answer = λ widths sizes v. erase_answer widths sizes v slots;
        outcome_is = λ widths sizes v. ap (λ (l : List Step). settled (erase_answer widths sizes v slots) 0 0 v.flash (apply_all_in FiveWords sizes.width v.flash l)) (sym (append-nil (erase_steps slots)));
        spares = λ widths sizes v. erase_spares widths sizes v slots;
      };
      cleans = λ block. record {
        answer = λ widths sizes v. clean_answer widths sizes v block;
        outcome_is = λ widths sizes v. ap (λ (l : List Step). settled (clean_answer widths sizes v block) 0 0 v.flash (apply_all_in FiveWords sizes.width v.flash l)) (steps_in_stages sizes v (block_at sizes.slots block));
        spares = λ widths sizes v. clean_spares widths sizes v block;
      };
      sweeps = record { answer = sweep_answer; outcome_is = λ widths sizes v. refl; spares = sweep_spares };
      recover_answer = recover_answer;
      links = links_of;
      recover_is = λ widths sizes v. refl;
      recover_accepts = λ widths sizes v comm kept fits apart core. recover_accepts widths sizes v fits core;
      committed_found_lem = λ P S t bytes comm kept core p h. committed_found_lem core p h;
    }

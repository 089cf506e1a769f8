-- Laws of an erase of either kind, our own or the trial one: what one that is done has tested, and what the trial one gives where our own does not differ.
use Rattle.std.specs.Prelude.{ℕ, ◌≡◌, ◌⊎◌, refl, List, Bool, true, false, not, eqb, Result, Ok, Err, is_err}
use Rattle.std.proofs.Common.{arith, ◌∙◌, inl, inr}
use Rattle.std.specs.Result.{result_eq}
use Rattle.std.specs.contracts.prelude.UnitPartialEq.TheImpl.{eq-value as unit_eq}
use Rattle.outcome.specs.contracts.RefusalPartialEq.TheImpl.{eq-value as refusal_eq}
use Rattle.std.proofs.Math.Path.{sym, ap}
use borrow.Author.Tests.{ne_eqb, eqb-true}
use Rattle.bounded.specs.Limits.{Widths}
use Rattle.bounded.specs.Choice.{never}
use Rattle.outcome.specs.declared.Refusal.{Refusal}
use Rattle.outcome.specs.Outcome.{◌⇒◌otherwise◌, Outcome, settled}
use Rattle.outcome.specs.OutcomeLaws.{settled_answer, settled_refused}
use Rattle.outcome.specs.Reply.{outcome_of}
use Rattle.outcome.specs.declared.Refusal.TheVariants.{MayNotErase}
use Rattle.outcome.specs.Result.{number_of, answer_of, ends}
use Rattle.sizes.specs.declared.Layout.TheVariants.{FiveWords}
use Rattle.sizes.specs.declared.Sizes.{Sizes}
use Rattle.sizes.specs.Sizes.{list_ok}
use Rattle.sizes.specs.Lists.{Listed, list_facts}
use Rattle.record.specs.Slot.{slot_at}
use Rattle.record.specs.Flash.{Flash, apply_all}
use Rattle.state.specs.State.{state_at, state_sound}
use Rattle.table.specs.Table.{table_sound}
use Rattle.rules.specs.Volume.{Volume, volume_fits}
use Rattle.rules.specs.Permission.{may_erase_all, scene_of}
use Rattle.rules.specs.Erase.{erase_answer, erase_steps, erase_outcome}
use Rattle.rules.specs.laws.Volume.{Fits}
use Rattle.rules.proofs.laws.Volume.{fits_facts}
use Rattle.collect.specs.EraseLaws.{ListedIn, listed_in}
use Rattle.everywhere.specs.Cuts.{answer_by, erase_outcome_by}

-- ---- what an erase that is done has tested

-- but for 12, an erase of either kind is done where the answer is 0
done_zero : (trial : Bool) (n : ℕ) → answer_by trial n ≡ 0 → ¬ (n ≡ 12) → n ≡ 0
unfolding answer_by
done_zero false n e d = e
done_zero true n e d = rw (ne_eqb n 12 d) at e

-- every test in front of the permission has passed
passed_tests :
    (trial fits table state list may : Bool)
    → answer_by trial (not fits ⇒ 1 otherwise not table ⇒ 2 otherwise not state ⇒ 5 otherwise not list ⇒ 6 otherwise not may ⇒ 12 otherwise 0) ≡ 0
    → (fits ≡ true) × (list ≡ true)
passed_tests trial false table state list may e = let z = done_zero trial 1 e (λ q. omega arith) in absurd (omega arith)
passed_tests trial true false state list may e = let z = done_zero trial 2 e (λ q. omega arith) in absurd (omega arith)
passed_tests trial true true false list may e = let z = done_zero trial 5 e (λ q. omega arith) in absurd (omega arith)
passed_tests trial true true true false may e = let z = done_zero trial 6 e (λ q. omega arith) in absurd (omega arith)
passed_tests trial true true true true may e = (refl, refl)

module _ (trial : Bool) (widths : Widths) (sizes : Sizes) (v : Volume) (list : List ℕ) (done : answer_by trial (erase_answer widths sizes v list) ≡ 0) where
  done_tests : (volume_fits widths sizes v ≡ true) × (list_ok sizes.slots list ≡ true)
  unfolding erase_answer
  done_tests =
      passed_tests trial
      (volume_fits widths sizes v)
      (table_sound sizes.pages sizes.slots (slot_at v.flash.words))
      (state_sound sizes.pages (state_at v.state))
      (list_ok sizes.slots list)
      (may_erase_all (scene_of sizes v) list)
      done

  done_fits : Fits widths sizes v
  done_fits = fits_facts widths sizes v done_tests.0

  pub done_list : Listed sizes.slots list
  done_list = list_facts sizes.slots list done_tests.1

  done_listed : ListedIn FiveWords sizes.width v.flash.words v.flash.contents list
  done_listed = listed_in FiveWords sizes.width sizes.slots v.flash list done_fits.flash_sized done_list.in_range_lem

-- so that its slots are in a copy of the flash
pub copy_listed :
    (trial : Bool) (widths : Widths) (sizes : Sizes) (v : Volume) (list : List ℕ) (r : Result (Unit {0}) Refusal) (left : Flash) → ends r left ≡ erase_outcome_by trial widths sizes v list
    → is_err r ≡ false → (copy : Flash) → copy ≡ v.flash → ListedIn FiveWords sizes.width copy.words copy.contents list
unfolding erase_outcome_by
copy_listed trial widths sizes v list (Ok x) left says done copy same =
    let answer_by_lem = settled_answer (answer_by trial (erase_answer widths sizes v list)) 0 0 _ _ in
    rw same (done_listed trial widths sizes v list (sym answer_by_lem ∙ ap (λ (o : Outcome Flash). o.answer) (sym says)))
copy_listed trial widths sizes v list (Err refusal) left says done copy same = absurd (never refl done)

-- ---- the trial erase by our own

-- one refusal alone has the number 12
may_not : (refusal : Refusal) → refusal_eq.it refusal MayNotErase ≡ eqb (number_of refusal) 12
may_not MayNotErase = refl
may_not _ = refl

pub is_twelve : (r : Result (Unit {0}) Refusal) → result_eq unit_eq.it refusal_eq.it r (Err MayNotErase) ≡ eqb (answer_of r) 12
is_twelve (Ok x) = refl
is_twelve (Err refusal) = may_not refusal

-- what erase gives
module _ (trial : Bool) (widths : Widths) (sizes : Sizes) (v : Volume) (list : List ℕ) (r : Result (Unit {0}) Refusal) (left : Flash) (says : ends r left ≡ erase_outcome widths sizes v list) where
  answer_is : answer_of r ≡ erase_answer widths sizes v list
  unfolding erase_outcome
  answer_is = by r ∙ ap (λ (o : Outcome Flash). o.answer) says ∙ settled_answer (erase_answer widths sizes v list) 0 0 _ _
    where
      by : (r : Result (Unit {0}) Refusal) → answer_of r ≡ (ends r left).answer
      by (Ok x) = refl
      by (Err refusal) = refl

  -- the trial one gives the same where it need not differ
  pub trial_same : (trial ≡ false) ⊎ (eqb (answer_of r) 12 ≡ false) → ends r left ≡ erase_outcome_by trial widths sizes v list
  unfolding erase_outcome erase_outcome_by answer_by
  trial_same (inl own) = rw own says
  trial_same (inr other) = rw (same trial) says
    where
      same : (trial : Bool) → answer_by trial (erase_answer widths sizes v list) ≡ erase_answer widths sizes v list
      same true = rw (sym (ap (λ (n : ℕ). eqb n 12) answer_is) ∙ other)
      same false = refl

  -- where erase answers 12 the flash is as it was, and the trial is done
  module _ (is_trial : trial ≡ true) (twelve : eqb (answer_of r) 12 ≡ true) where
    answer_twelve : erase_answer widths sizes v list ≡ 12
    answer_twelve = sym answer_is ∙ eqb-true (answer_of r) 12 twelve

    trial_left : left ≡ v.flash
    unfolding erase_outcome
    trial_left = left_is r ∙ ap (λ (o : Outcome Flash). o.left) (says ∙ settled_refused (erase_answer widths sizes v list) 0 0 v.flash _ (λ z. let e = answer_twelve in omega arith))
      where
        left_is : (r : Result (Unit {0}) Refusal) → left ≡ (ends r left).left
        left_is (Ok x) = refl
        left_is (Err refusal) = refl

    trial_answer : answer_by trial (erase_answer widths sizes v list) ≡ 0
    unfolding answer_by
    trial_answer = rw (is_trial, answer_twelve)

    pub trial_listed : ListedIn FiveWords sizes.width left.words left.contents list × (widths sizes.width ≡ true)
    trial_listed = (rw trial_left (done_listed trial widths sizes v list trial_answer), (done_fits trial widths sizes v list trial_answer).allowed)

    pub trial_done : (after : Flash) → after ≡ apply_all sizes.width left (erase_steps list) → outcome_of 0 0 after ≡ erase_outcome_by trial widths sizes v list
    unfolding erase_outcome_by settled
    trial_done after e = rw (trial_answer, e, trial_left)

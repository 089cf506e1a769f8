-- Promise 3 is not empty: every volume that can be formatted has runs, and what may follow a run.
use Rattle.std.specs.Prelude.{ℕ, ◌*◌, ◌≡◌, Bool, cond, length}
use Rattle.std.proofs.Math.Path.{refl}
use Rattle.std.proofs.Common.{◌∙◌, eq-eqb}
use mathlib.Core.List.{List, [], ◌∷◌, ◌++◌, map}
use Rattle.std.proofs.Math.Bool.{true, false}
use Rattle.bounded.specs.Limits.{Widths}
use Rattle.bounded.specs.Choice.{both, both_left, both_right, not_yes}
use Rattle.outcome.specs.OutcomeLaws.{settled_answer}
use Rattle.sizes.specs.declared.Sizes.{Sizes}
use Rattle.rules.specs.Volume.{Volume}
use Rattle.rules.specs.laws.Volume.{FitsIn}
use Rattle.rules.proofs.laws.Volume.{fits_in_test}
use Rattle.rules.specs.Format.{formatted_in, format_answer_in, format_outcome_in}
use Rattle.atomicity.specs.Family.{Family}
use Rattle.atomicity.specs.Call.{Call, with_state, perform}
use Rattle.atomicity.specs.Run.{Event, World, is_recover, still_lost, happens, started, after, keeps_to, keeps_premises}
use Rattle.atomicity.specs.Promise.{Premises}
use Rattle.atomicity.specs.Companions.{MayFollow, StateKnown, PremisesMet}
use Rattle.atomicity.proofs.steps.Theory.{Theory}
use Rattle.atomicity.proofs.theorems.Promise.{own_state}

module _ {F : Family} (T : Theory F) (widths : Widths) (sizes : Sizes) where
  -- ---- event by event

  call_kept : (lost : Bool) (c : Call) → lost ≡ false → cond lost (is_recover c) true ≡ true
  call_kept lost c e = rw e

  recover_kept : (lost : Bool) → cond lost (is_recover Call.Recover) true ≡ true
  unfolding is_recover
  recover_kept true = refl
  recover_kept false = refl

  still_known : (x : World) (c : Call) → x.lost ≡ false → (happens F widths sizes x (Event.Returns c)).lost ≡ false
  unfolding happens still_lost
  still_known x c e = rw e

  -- calls alone never lose the state, so a list of them keeps to the premises
  calls_keep : (x : World) (list : List Call) → x.lost ≡ false → keeps_premises F widths sizes x (map Event.Returns list) ≡ true
  unfolding keeps_premises keeps_to
  calls_keep x [] e = refl
  calls_keep x (c ∷ list) e = both (call_kept x.lost c e) (calls_keep (happens F widths sizes x (Event.Returns c)) list (still_known x c e))

  -- an event behind a list that keeps to them
  keeps_more : (x : World) (l : List Event) (e : Event) → keeps_premises F widths sizes x l ≡ true → keeps_to sizes.pages (after F widths sizes x l) e ≡ true → keeps_premises F widths sizes x (l ++ e ∷ []) ≡ true
  unfolding keeps_premises after
  keeps_more x [] e h k = both k refl
  keeps_more x (f ∷ l) e h k =
      both (both_left (keeps_to sizes.pages x f) (keeps_premises F widths sizes (happens F widths sizes x f) l) h)
      (keeps_more (happens F widths sizes x f) l e (both_right (keeps_to sizes.pages x f) (keeps_premises F widths sizes (happens F widths sizes x f) l) h) k)

  after_more : (x : World) (l : List Event) (e : Event) → after F widths sizes x (l ++ e ∷ []) ≡ happens F widths sizes (after F widths sizes x l) e
  unfolding after
  after_more x [] e = refl
  after_more x (f ∷ l) e = after_more (happens F widths sizes x f) l e

  module _ (v : Volume) where
    follows : (events : List Event) (e : Event) → Premises F widths sizes v events → keeps_to sizes.pages (after F widths sizes (started F widths sizes v) events) e ≡ true → MayFollow F widths sizes v events e
    follows events e p k = record { formatted = p.formatted; keeps = keeps_more (started F widths sizes v) events e p.keeps k }

    -- a volume whose P, S and lengths are right formats
    formats : FitsIn F.layout widths sizes v → (format_outcome_in F.layout widths sizes v).answer ≡ 0
    unfolding format_outcome_in format_answer_in
    formats f = settled_answer (format_answer_in F.layout widths sizes v) 0 0 v (formatted_in F.layout sizes) ∙ rw (not_yes (fits_in_test F.layout widths sizes v f))

  known_again : (lost : Bool) (answer : ℕ) → answer ≡ 0 → still_lost lost Call.Recover answer ≡ false
  unfolding still_lost is_recover
  known_again true answer e = rw e
  known_again false answer e = refl

  finds : (v : Volume) (events : List Event) → Premises F widths sizes v events → StateKnown F widths sizes v (events ++ Event.Returns Call.Recover ∷ [])
  unfolding happens perform with_state
  finds v events p =
      rw (after_more (started F widths sizes v) events (Event.Returns Call.Recover))
      (known_again (after F widths sizes (started F widths sizes v) events).lost _ (own_state T widths sizes v events p).recover_answers_lem)

pub premises_met : {F : Family} (T : Theory F) → PremisesMet F
unfolding keeps_to keeps_premises started
premises_met {F} T =
    record {
      at_first = λ widths sizes v f. record { formatted = formats T widths sizes v f; keeps = refl };
      calls = λ widths sizes v f list. record { formatted = formats T widths sizes v f; keeps = calls_keep T widths sizes (started F widths sizes v) list refl };
      crash = λ widths sizes v events p state e. follows T widths sizes v events (Event.Crash state) p (eq-eqb (length state) (4 * sizes.pages) e);
      recover = λ widths sizes v events p. follows T widths sizes v events (Event.Returns Call.Recover) p (recover_kept T widths sizes (after F widths sizes (started F widths sizes v) events).lost);
      crashed_recover = λ widths sizes v events p stage done state e. follows T widths sizes v events (Event.CrashIn Call.Recover stage done state) p
          (both (recover_kept T widths sizes (after F widths sizes (started F widths sizes v) events).lost) (eq-eqb (length state) (4 * sizes.pages) e));
      call = λ widths sizes v events p k c. follows T widths sizes v events (Event.Returns c) p (call_kept T widths sizes (after F widths sizes (started F widths sizes v) events).lost c k);
      crashed_call = λ widths sizes v events p k c stage done state e. follows T widths sizes v events (Event.CrashIn c stage done state) p
          (both (call_kept T widths sizes (after F widths sizes (started F widths sizes v) events).lost c k) (eq-eqb (length state) (4 * sizes.pages) e));
      recover_finds = λ widths sizes v events p. finds T widths sizes v events p;
    }

-- A call in a run, its own answer and its stages; and stages cut short: which steps a crash leaves done.
use Prim.Native.Nat.{ℕ, zero, suc, ◌+◌, ◌≤◌, ◌<◌}
use Rattle.std.proofs.Common.{arith, sym, ◌∙◌}
use Rattle.std.specs.Prelude.{◌≡◌, Bool, true, false, ◌&&◌, eqb, length}
use Rattle.std.proofs.Math.Path.{refl, ap, ap₂, fun_ext}
use mathlib.Core.List.{List, [], ◌∷◌, ◌++◌, append-nil, flatten}
use borrow.Author.Tests.{eq-eqb, ne_eqb, lt-ltb, le-ltb}
use Rattle.bounded.specs.Limits.{Widths}
use Rattle.bounded.specs.Choice.{on_lt, either_left}
use Rattle.outcome.specs.Outcome.{Outcome}
use Rattle.outcome.specs.OutcomeLaws.{settled_answer}
use Rattle.sizes.specs.declared.Sizes.{Sizes}
use Rattle.record.specs.Flash.{Flash, Step}
use Rattle.rules.specs.Volume.{Volume}
use Rattle.rules.specs.Launch.{launch_answer, launch_outcome}
use Rattle.rules.specs.Withdraw.{withdraw_answer, withdraw_outcome}
use Rattle.rules.proofs.laws.Outcomes.{launch_refused, withdraw_refused}
use Rattle.atomicity.specs.Family.{Family}
use Rattle.atomicity.specs.Call.{Call, with_state, with_flash, perform, planned_stages, flash_stages}
use Rattle.atomicity.specs.Run.{done_of, done_in, was_done, steps_cut_short}
use Rattle.atomicity.proofs.steps.Theory.{Theory, spared_answer, spared_refused, write_refused, recover_refused}

-- ---- a call in a run

module _ {F : Family} (T : Theory F) (widths : Widths) (sizes : Sizes) (v : Volume) where
  -- a call's answer in a run is the call's own
  unfoldable pub answer_is : (call : Call) → ℕ
  answer_is (Call.Launch pages) = launch_answer widths sizes v.state pages
  answer_is (Call.Write page slot bytes) = T.write_answer widths sizes v page slot bytes
  answer_is (Call.Withdraw page) = withdraw_answer widths sizes v.state page
  answer_is (Call.Erase slots) = (T.erases slots).answer widths sizes v
  answer_is Call.Recover = T.recover_answer widths sizes v
  answer_is (Call.Clean block) = (T.cleans block).answer widths sizes v
  answer_is Call.Sweep = T.sweeps.answer widths sizes v

  pub performs : (call : Call) → (perform F widths sizes v call).answer ≡ answer_is call
  unfolding perform with_state with_flash answer_is launch_outcome withdraw_outcome
  performs (Call.Launch pages) = settled_answer (launch_answer widths sizes v.state pages) _ _ _ _
  performs (Call.Write page slot bytes) = ap (λ (o : Outcome Volume). o.answer) (T.write_is widths sizes v page slot bytes) ∙ settled_answer (T.write_answer widths sizes v page slot bytes) _ _ _ _
  performs (Call.Withdraw page) = settled_answer (withdraw_answer widths sizes v.state page) _ _ _ _
  performs (Call.Erase slots) = spared_answer (T.erases slots) widths sizes v
  performs Call.Recover = ap (λ (o : Outcome (List ℕ)). o.answer) (T.recover_is widths sizes v) ∙ settled_answer (T.recover_answer widths sizes v) _ _ _ _
  performs (Call.Clean block) = spared_answer (T.cleans block) widths sizes v
  performs Call.Sweep = spared_answer T.sweeps widths sizes v

  -- a refused call leaves the volume as it was
  pub refused_leaves : (call : Call) → ¬ (answer_is call ≡ 0) → (perform F widths sizes v call).left ≡ v
  unfolding perform with_state with_flash answer_is
  refused_leaves (Call.Launch pages) n = ap (λ (o : Outcome (List ℕ)). record { flash = v.flash; state = o.left }) (launch_refused widths sizes v.state pages n)
  refused_leaves (Call.Write page slot bytes) n = ap (λ (o : Outcome Volume). o.left) (write_refused T widths sizes v page slot bytes n)
  refused_leaves (Call.Withdraw page) n = ap (λ (o : Outcome (List ℕ)). record { flash = v.flash; state = o.left }) (withdraw_refused widths sizes v.state page n)
  refused_leaves (Call.Erase slots) n = ap (λ (f : Flash). record { flash = f; state = v.state }) (spared_refused (T.erases slots) widths sizes v n)
  refused_leaves Call.Recover n = ap (λ (o : Outcome (List ℕ)). record { flash = v.flash; state = o.left }) (recover_refused T widths sizes v n)
  refused_leaves (Call.Clean block) n = ap (λ (f : Flash). record { flash = f; state = v.state }) (spared_refused (T.cleans block) widths sizes v n)
  refused_leaves Call.Sweep n = ap (λ (f : Flash). record { flash = f; state = v.state }) (spared_refused T.sweeps widths sizes v n)

  -- it has no stages, and an accepted one those planned
  pub refused_stages : (call : Call) → ¬ (answer_is call ≡ 0) → flash_stages F widths sizes v call ≡ []
  unfolding flash_stages
  refused_stages call n = rw (ne_eqb (perform F widths sizes v call).answer 0 (λ e. n (sym (performs call) ∙ e)))

  pub accepted_stages : (call : Call) → answer_is call ≡ 0 → flash_stages F widths sizes v call ≡ planned_stages F sizes v call
  unfolding flash_stages
  accepted_stages call e = rw (eq-eqb (perform F widths sizes v call).answer 0 (performs call ∙ e))

-- ---- steps done

pub done_all : (i : ℕ) (steps : List Step) → done_of (λ i. true) i steps ≡ steps
unfolding done_of
done_all i [] = refl
done_all i (s ∷ steps) = ap (λ (l : List Step). s ∷ l) (done_all (suc i) steps)

done_none : (i : ℕ) (steps : List Step) → done_of (λ i. false) i steps ≡ []
unfolding done_of
done_none i [] = refl
done_none i (s ∷ steps) = done_none (suc i) steps

-- ---- stages cut short

module _ (stage : ℕ) (done : ℕ → Bool) where
  -- of a stage before the crash's, of the crash's, and of one behind it
  pub done_before : (k : ℕ) → k < stage → was_done stage done k ≡ (λ i. true)
  unfolding was_done
  done_before k h = fun_ext (λ i. either_left (eqb k stage && done i) (lt-ltb k stage h))

  pub done_here : (k : ℕ) → k ≡ stage → was_done stage done k ≡ done
  unfolding was_done
  done_here k e = fun_ext (λ i. rw (le-ltb k stage (omega arith), eq-eqb k stage e))

  pub done_behind : (k : ℕ) → stage < k → was_done stage done k ≡ (λ i. false)
  unfolding was_done
  done_behind k h = fun_ext (λ i. rw (le-ltb k stage (omega arith), ne_eqb k stage (λ e. omega arith)))

  none_behind : (k : ℕ) (stages : List (List Step)) → stage < k → done_in (was_done stage done) k stages ≡ []
  unfolding done_in
  none_behind k [] h = refl
  none_behind k (first ∷ rest) h =
      ap₂ {C = List Step} ◌++◌ (ap (λ (f : ℕ → Bool). done_of f 0 first) (done_behind k h) ∙ done_none 0 first) (none_behind (suc k) rest (omega arith))

  -- of one stage alone
  pub cut_one : (steps : List Step) → steps_cut_short stage done (steps ∷ []) ≡ done_of (was_done stage done 0) 0 steps
  unfolding steps_cut_short done_in
  cut_one steps = append-nil (done_of (was_done stage done 0) 0 steps)

-- in the first stage any part of it is done, and nothing behind it
pub cut_first : (done : ℕ → Bool) (first : List Step) (rest : List (List Step)) → steps_cut_short zero done (first ∷ rest) ≡ done_of done 0 first
unfolding steps_cut_short done_in
cut_first done first rest =
    ap₂ {C = List Step} ◌++◌ (ap (λ (f : ℕ → Bool). done_of f 0 first) (done_here zero done 0 refl)) (none_behind zero done 1 rest (omega arith)) ∙ append-nil (done_of done 0 first)

-- in a later one the first is done, and of the others what a crash in one stage less leaves
pub cut_later : (stage : ℕ) (done : ℕ → Bool) (first : List Step) (rest : List (List Step)) → steps_cut_short (suc stage) done (first ∷ rest) ≡ first ++ steps_cut_short stage done rest
unfolding steps_cut_short done_in
cut_later stage done first rest =
    ap₂ {C = List Step} ◌++◌ (ap (λ (f : ℕ → Bool). done_of f 0 first) (done_before (suc stage) done 0 (omega arith)) ∙ done_all 0 first) (shifted 0 rest)
  where
    same : (k : ℕ) → was_done (suc stage) done (suc k) ≡ was_done stage done k
    same k =
        on_lt k stage
        (λ l. done_before (suc stage) done (suc k) (omega arith) ∙ sym (done_before stage done k l))
        (λ l. on_lt stage k
        (λ g. done_behind (suc stage) done (suc k) (omega arith) ∙ sym (done_behind stage done k g))
        (λ g. done_here (suc stage) done (suc k) (omega arith) ∙ sym (done_here stage done k (omega arith))))

    shifted : (k : ℕ) (stages : List (List Step)) → done_in (was_done (suc stage) done) (suc k) stages ≡ done_in (was_done stage done) k stages
    shifted k [] = refl
    shifted k (next ∷ stages) = ap₂ {C = List Step} ◌++◌ (ap (λ (f : ℕ → Bool). done_of f 0 next) (same k)) (shifted (suc k) stages)

-- past the last stage all are done
pub cut_past_last : (stage : ℕ) (done : ℕ → Bool) (stages : List (List Step)) → length stages ≤ stage → steps_cut_short stage done stages ≡ flatten stages
unfolding flatten steps_cut_short done_in
cut_past_last stage done [] h = refl
cut_past_last zero done (first ∷ rest) h = absurd (omega arith)
cut_past_last (suc stage) done (first ∷ rest) h = cut_later stage done first rest ∙ ap (λ (l : List Step). first ++ l) (cut_past_last stage done rest (omega arith))

-- A call that returns has done all its stages, and a crash does none of a later stage unless every step of the earlier ones.
use Rattle.std.specs.Prelude.{ℕ, ◌<◌, ◌≡◌, Bool, true}
use Rattle.std.proofs.Common.{arith, sym, ◌∙◌}
use Rattle.std.proofs.Math.Path.{refl, ap}
use mathlib.Core.List.{List, flatten}
use Rattle.bounded.specs.Limits.{Widths}
use Rattle.bounded.specs.Choice.{on_eq, on_lt, never}
use Rattle.outcome.specs.Outcome.{Outcome}
use Rattle.sizes.specs.declared.Sizes.{Sizes}
use Rattle.record.specs.Flash.{Step, apply_all_in}
use Rattle.rules.specs.Volume.{Volume}
use Rattle.atomicity.specs.Family.{Family}
use Rattle.atomicity.specs.Call.{Call, with_state, with_flash, perform, planned_stages, flash_stages}
use Rattle.atomicity.specs.Run.{was_done}
use Rattle.atomicity.specs.Companions.{StagesInOrder}
use Rattle.atomicity.proofs.steps.Theory.{Theory, spared_done, write_done}
use Rattle.atomicity.proofs.steps.Stages.{answer_is, refused_leaves, refused_stages, accepted_stages, done_before, done_here, done_behind, cut_past_last}

module _ {F : Family} (T : Theory F) (widths : Widths) (sizes : Sizes) (v : Volume) where
  -- the flash that an accepted call leaves
  planned_left : (call : Call) → answer_is T widths sizes v call ≡ 0 → (perform F widths sizes v call).left.flash ≡ apply_all_in F.layout sizes.width v.flash (flatten (planned_stages F sizes v call))
  unfolding perform with_state with_flash answer_is planned_stages flatten apply_all_in
  planned_left (Call.Launch pages) e = refl
  planned_left (Call.Write page slot bytes) e = ap (λ (o : Outcome Volume). o.left.flash) (write_done T widths sizes v page slot bytes e)
  planned_left (Call.Withdraw page) e = refl
  planned_left (Call.Erase slots) e = spared_done (T.erases slots) widths sizes v e
  planned_left Call.Recover e = refl
  planned_left (Call.Clean block) e = spared_done (T.cleans block) widths sizes v e
  planned_left Call.Sweep e = spared_done T.sweeps widths sizes v e

  -- what any call leaves
  pub performs_stages : (call : Call) → (perform F widths sizes v call).left.flash ≡ apply_all_in F.layout sizes.width v.flash (flatten (flash_stages F widths sizes v call))
  unfolding flatten apply_all_in
  performs_stages call =
      on_eq (answer_is T widths sizes v call) 0
      (λ e. planned_left call e ∙ ap (λ (l : List (List Step)). apply_all_in F.layout sizes.width v.flash (flatten l)) (sym (accepted_stages T widths sizes v call e)))
      (λ n. ap (λ (x : Volume). x.flash) (refused_leaves T widths sizes v call n) ∙ ap (λ (l : List (List Step)). apply_all_in F.layout sizes.width v.flash (flatten l)) (sym (refused_stages T widths sizes v call n)))

cut_in_order : (stage : ℕ) (done : ℕ → Bool) (k i j n : ℕ) → was_done stage done k i ≡ true → j < k → was_done stage done j n ≡ true
cut_in_order stage done k i j n e h =
    on_lt stage k
    (λ l. absurd (never e (ap (λ (f : ℕ → Bool). f i) (done_behind stage done k l))))
    (λ l. ap (λ (f : ℕ → Bool). f n) (done_before stage done j (omega arith)))

pub stages_in_order : {F : Family} (T : Theory F) → StagesInOrder F
stages_in_order T =
    record {
      performed = performs_stages T;
      past_last = cut_past_last;
      own_stage = λ stage done i. ap (λ (f : ℕ → Bool). f i) (done_here stage done stage refl);
      none_behind = λ stage done k i h. ap (λ (f : ℕ → Bool). f i) (done_behind stage done k h);
      in_order = cut_in_order;
    }

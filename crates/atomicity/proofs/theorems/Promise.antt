-- Promise 3: the invariant holds after every list of events, and under it recovery answers 0 and each page holds what the model keeps.
use Rattle.std.specs.Prelude.{ℕ, ◌*◌, ◌≡◌, true, not, length}
use Rattle.std.proofs.Math.Path.{refl, sym, subst}
use Rattle.std.proofs.Common.{◌∙◌}
use mathlib.Core.List.{List, [], ◌∷◌}
use Rattle.std.proofs.Math.Bool.{false}
use Rattle.std.proofs.lemmas.Bool.{not-false}
use Rattle.bounded.specs.Limits.{Widths}
use Rattle.bounded.specs.Choice.{both_left, both_right}
use Rattle.outcome.specs.Outcome.{Outcome}
use Rattle.outcome.specs.OutcomeLaws.{passed, settled_answer}
use Rattle.sizes.specs.declared.Sizes.{Sizes}
use Rattle.rules.specs.Volume.{Volume, volume_fits_in}
use Rattle.rules.proofs.laws.Volume.{fits_in_facts}
use Rattle.rules.specs.Format.{formatted_in, format_answer_in, format_outcome_in}
use Rattle.rules.proofs.laws.Outcomes.{format_done}
use Rattle.atomicity.specs.Family.{Family}
use Rattle.atomicity.specs.Run.{Event, World, happens, started, after, keeps_to, keeps_premises}
use Rattle.atomicity.specs.Model.{Model, fresh_model, learns}
use Rattle.atomicity.specs.Promise.{PromiseOf, told, model_after, Recovers, Premises, OwnState}
use Rattle.atomicity.proofs.steps.Theory.{Theory}
use Rattle.atomicity.proofs.steps.Invariant.{Holding, known, unknown}
use Rattle.atomicity.proofs.steps.Format.{formatted_fits, formatted_live}
use Rattle.atomicity.proofs.steps.Recover.{recovers}
use Rattle.atomicity.proofs.steps.Event.{event_keeps}

module _ {F : Family} (T : Theory F) (widths : Widths) (sizes : Sizes) where
  -- every list of events keeps the invariant
  list_keeps : (x : World) (m : Model) (events : List Event) → Holding T widths sizes x m → keeps_premises F widths sizes x events ≡ true → Holding T widths sizes (after F widths sizes x events) (model_after F widths sizes x m events)
  unfolding after model_after keeps_premises
  list_keeps x m [] h k = h
  list_keeps x m (e ∷ events) h k =
      list_keeps (happens F widths sizes x e) (learns m (told F widths sizes x e)) events
      (event_keeps T widths sizes x m e h (both_left (keeps_to sizes.pages x e) (keeps_premises F widths sizes (happens F widths sizes x e) events) k))
      (both_right (keeps_to sizes.pages x e) (keeps_premises F widths sizes (happens F widths sizes x e) events) k)

  -- under the invariant promise 3's conclusion holds
  pub holding_recovers : (x : World) (m : Model) → Holding T widths sizes x m → (state : List ℕ) → length state ≡ 4 * sizes.pages → Recovers F widths sizes x.volume.flash m.kept state
  holding_recovers x m (known found fits live) state long = recovers T widths sizes x.volume.flash fits.bounds fits.allowed fits.flash_sized live.apart live.core state long
  holding_recovers x m (unknown lost fits l) state long = recovers T widths sizes x.volume.flash fits.bounds fits.allowed fits.flash_sized l.apart l.core state long

  -- the start
  pub starts : (v : Volume) → (format_outcome_in F.layout widths sizes v).answer ≡ 0 → Holding T widths sizes (started F widths sizes v) (fresh_model sizes.width)
  unfolding started format_answer_in format_outcome_in
  starts v e =
      let a : format_answer_in F.layout widths sizes v ≡ 0 = sym (settled_answer (format_answer_in F.layout widths sizes v) 0 0 v (formatted_in F.layout sizes)) ∙ e in
      let fits = fits_in_facts F.layout widths sizes v (not-false (volume_fits_in F.layout widths sizes v) (passed (not (volume_fits_in F.layout widths sizes v)) _ _ a).0) in
      subst (λ (o : Outcome Volume). Holding T widths sizes (record { volume = o.left; lost = false }) (fresh_model sizes.width)) (sym (format_done F.layout widths sizes v a))
      (known refl (formatted_fits T sizes fits.bounds widths fits.allowed) (formatted_live T sizes fits.bounds))

-- The invariant holds after every list of events under the premises.
pub reached : {F : Family} (T : Theory F) (widths : Widths) (sizes : Sizes) (v : Volume) (events : List Event) → Premises F widths sizes v events → Holding T widths sizes (after F widths sizes (started F widths sizes v) events) (model_after F widths sizes (started F widths sizes v) (fresh_model sizes.width) events)
reached {F} T widths sizes v events p = list_keeps T widths sizes (started F widths sizes v) (fresh_model sizes.width) events (starts T widths sizes v p.formatted) p.keeps

-- the state has its 4×P words after every list
holding_sized : {F : Family} (T : Theory F) (widths : Widths) (sizes : Sizes) (x : World) (m : Model) → Holding T widths sizes x m → length x.volume.state ≡ 4 * sizes.pages
holding_sized T widths sizes x m (known found fits live) = fits.state_sized
holding_sized T widths sizes x m (unknown lost fits l) = fits.state_sized

-- Promise 3, whole.
pub promise_of : {F : Family} (T : Theory F) → PromiseOf F
promise_of {F} T widths sizes v events p state long =
    holding_recovers T widths sizes (after F widths sizes (started F widths sizes v) events) (model_after F widths sizes (started F widths sizes v) (fresh_model sizes.width) events) (reached T widths sizes v events p) state long

-- … and on the volume's own state.
pub own_state : {F : Family} (T : Theory F) → OwnState F
own_state {F} T widths sizes v events p =
    promise_of T widths sizes v events p (after F widths sizes (started F widths sizes v) events).volume.state
    (holding_sized T widths sizes (after F widths sizes (started F widths sizes v) events) (model_after F widths sizes (started F widths sizes v) (fresh_model sizes.width) events) (reached T widths sizes v events p))

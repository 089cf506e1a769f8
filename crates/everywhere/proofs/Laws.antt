-- A recorded run with a cut at every point: each cut is counted once, and of our own calls none differs. What promise 3 says of a run holds at every cut: a call that comes
-- while the state is lost is a recover, or is refused, and then it alters nothing and has no cut.
use Prim.Native.Nat.{ℕ, suc, ◌+◌, ◌*◌, ◌<◌}
use Rattle.std.proofs.Common.{arith, sym, ◌∙◌, eq-eqb, ne_eqb}
use Rattle.std.specs.Prelude.{◌≡◌, Bool, eqb, replicate}
use Rattle.std.proofs.Math.Path.{refl, ap, ap₂, subst}
use mathlib.Core.List.{List, [], ◌∷◌, ◌++◌, append-nil, map, flatten}
use Rattle.std.proofs.Math.Bool.{true, false, cond}
use Rattle.std.proofs.Math.ListN.{length, length-append, length-map}
use Rattle.std.proofs.lemmas.List.{length-replicate, get_or-replicate}
use Rattle.bounded.specs.Limits.{no_number, Widths}
use Rattle.bounded.specs.BelowLaws.{all_of}
use Rattle.bounded.specs.Choice.{on_test, never, both, and_true}
use Rattle.outcome.specs.Outcome.{settled}
use Rattle.outcome.specs.OutcomeLaws.{held}
use Rattle.sizes.specs.declared.Sizes.{Sizes}
use Rattle.record.specs.Slot.{slot_at}
use Rattle.record.specs.Flash.{Step, apply_all}
use Rattle.state.specs.declared.PageState.{PageState}
use Rattle.state.specs.State.{state_at, state_sound}
use Rattle.state.specs.StateLaws.{state_at_reads, state_sound_facts}
use Rattle.table.specs.Table.{table_sound}
use Rattle.twins.proofs.TwinsLaws.{bytes_agree}
use Rattle.rules.specs.Volume.{Volume, volume_fits}
use Rattle.rules.specs.laws.Volume.{FitsIn}
use Rattle.rules.proofs.laws.Accepted.{launch_tests, withdraw_tests, write_tests}
use Rattle.upkeep.proofs.laws.Tests.{clean_tests}
use Rattle.rules.specs.Format.{format_outcome_in}
use Rattle.rules.specs.Erase.{erase_answer, erase_steps, erase_outcome}
use Rattle.upkeep.specs.Sweep.{sweep_answer}
use Rattle.atomicity.specs.Family.{Family, back_pointer}
use Rattle.atomicity.specs.Call.{Call, with_state, perform, planned_stages, flash_stages}
use Rattle.atomicity.specs.Run.{Event, World, is_recover, still_lost, happens, started, keeps_to}
use Rattle.atomicity.specs.Model.{Model, fresh_model, learns}
use Rattle.atomicity.specs.Promise.{told, Recovers}
use Rattle.everywhere.specs.Cuts.{wiped_state, Recorded, event_of, slot_of, stage_points, points_from, are_reads_kept, comes_back, same_after, cuts_in, cuts_from, cuts_of, sames, differs, answer_by, erase_outcome_by, erasing}
use Rattle.everywhere.specs.Shown.{slots_of, slots_in, slots_from, CutEverywhere}
use Rattle.atomicity.proofs.steps.Invariant.{Holding, known, unknown}
use Rattle.atomicity.proofs.steps.Stages.{answer_is, performs, refused_leaves, refused_stages}
use Rattle.atomicity.proofs.steps.Event.{learns_refused, event_keeps}
use Rattle.atomicity.proofs.theorems.Promise.{holding_recovers, starts}
use Rattle.atomicity.proofs.BackPointer.{back_pointer_lem}

-- ---- the number of cuts

-- a point for each step
points_number : (stage : ℕ) (stages : List (List Step)) → length (points_from stage stages) ≡ length (flatten stages)
unfolding points_from stage_points flatten
points_number stage [] = refl
points_number stage (first ∷ rest) =
    length-append (stage_points stage (map slot_of first)) (points_from (suc stage) rest)
    ∙ ap₂ ◌+◌ (length-map (map slot_of first) _ ∙ length-map first slot_of) (points_number (suc stage) rest)
    ∙ sym (length-append first (flatten rest))

module _ (F : Family) (widths : Widths) (sizes : Sizes) where
  -- a step for each slot that the call stores or blanks
  planned_number : (v : Volume) (call : Call) → length (flatten (planned_stages F sizes v call)) ≡ slots_of F sizes v call
  unfolding planned_stages slots_of erase_steps flatten
  planned_number v (Call.Launch pages) = refl
  planned_number v (Call.Write page slot bytes) = refl
  planned_number v (Call.Withdraw page) = refl
  planned_number v (Call.Erase slots) = ap length (append-nil (erase_steps slots)) ∙ length-map slots Step.Blank
  planned_number v Call.Recover = refl
  planned_number v (Call.Clean block) = refl
  planned_number v Call.Sweep = refl

  stages_number : (v : Volume) (call : Call) → length (flatten (flash_stages F widths sizes v call)) ≡ slots_in F widths sizes v (Recorded.Makes call)
  unfolding flash_stages slots_in flatten
  stages_number v call =
      on_test (eqb (perform F widths sizes v call).answer 0)
      (λ y. rw y (planned_number v call))
      (λ n. rw n)

  step_number : (x : World) (m : Model) (r : Recorded) → length (cuts_in F widths sizes x m r) ≡ slots_in F widths sizes x.volume r
  unfolding cuts_in slots_in
  step_number x m (Recorded.Makes call) =
      length-map (points_from 0 (flash_stages F widths sizes x.volume call)) _ ∙ points_number 0 (flash_stages F widths sizes x.volume call) ∙ stages_number x.volume call
  step_number x m Recorded.Cut = refl

  cuts_number : (x : World) (m : Model) (script : List Recorded) → length (cuts_from F widths sizes x m script) ≡ slots_from F widths sizes x script
  unfolding cuts_from slots_from
  cuts_number x m [] = refl
  cuts_number x m (r ∷ script) =
      length-append (cuts_in F widths sizes x m r) _
      ∙ ap₂ ◌+◌ (step_number x m r) (cuts_number (happens F widths sizes x (event_of sizes r)) (learns m (told F widths sizes x (event_of sizes r))) script)

-- ---- the same, and those that differ

pub differs_append : (a b : List Bool) → differs (a ++ b) ≡ differs a + differs b
unfolding differs
differs_append [] b = omega arith
differs_append (true ∷ a) b = differs_append a b
differs_append (false ∷ a) b = let e = differs_append a b in omega arith

pub sames_append : (a b : List Bool) → sames (a ++ b) ≡ sames a + sames b
unfolding sames
sames_append [] b = omega arith
sames_append (true ∷ a) b = let e = sames_append a b in omega arith
sames_append (false ∷ a) b = sames_append a b

pub same_or_not : (cuts : List Bool) → sames cuts + differs cuts ≡ length cuts
unfolding sames differs
same_or_not [] = refl
same_or_not (true ∷ cuts) = let e = same_or_not cuts in omega arith
same_or_not (false ∷ cuts) = let e = same_or_not cuts in omega arith

-- none differs where each is the same
none_of : {A : Type 0} (f : A → Bool) → ((a : A) → f a ≡ true) → (l : List A) → differs (map f l) ≡ 0
unfolding differs
none_of f h [] = refl
none_of f h (a ∷ l) = ap (λ (b : Bool). differs (b ∷ map f l)) (h a) ∙ none_of f h l

-- what promise 3 concludes of a flash is that it comes back the same
back_again : (F : Family) (widths : Widths) (sizes : Sizes) (v : Volume) (kept : ℕ → List ℕ) → Recovers F widths sizes v.flash kept v.state → comes_back F widths sizes v kept ≡ true
unfolding comes_back are_reads_kept
back_again F widths sizes v kept r =
    both (eq-eqb _ 0 r.recover_answers_lem)
    (all_of _ sizes.pages (λ page h.
    let e = r.reads_kept page (replicate sizes.width 0) h (length-replicate sizes.width 0) in
    rw e ((bytes_agree sizes.width (kept page) (kept page)).1 (λ i b. refl))))

-- ---- while the state is lost

wiped_long : (sizes : Sizes) → length (wiped_state sizes) ≡ 4 * sizes.pages
unfolding wiped_state
wiped_long sizes = length-replicate (4 * sizes.pages) no_number

-- a wiped state is not sound
wiped_unsound : (sizes : Sizes) → 0 < sizes.pages → ¬ (state_sound sizes.pages (state_at (wiped_state sizes)) ≡ true)
unfolding wiped_state
wiped_unsound sizes h e =
    let u = ((state_sound_facts sizes.pages (state_at (wiped_state sizes)) e).page 0 h).used_highest in
    let r = ap (λ (s : PageState). s.used) (state_at_reads (wiped_state sizes) 0) in
    let g = get_or-replicate (4 * sizes.pages) 1 no_number 0 (omega arith) in
    omega arith

module _ (widths : Widths) (sizes : Sizes) where
  -- a call that is accepted is a recover, or the state is sound
  accepted_sound : (v : Volume) (call : Call) → is_recover call ≡ false → answer_is back_pointer_lem widths sizes v call ≡ 0 → state_sound sizes.pages (state_at v.state) ≡ true
  unfolding answer_is is_recover back_pointer_lem erase_answer sweep_answer
  accepted_sound v (Call.Launch pages) n e = (launch_tests widths sizes v.state pages e).sound
  accepted_sound v (Call.Write page slot bytes) n e = (write_tests widths sizes v page slot bytes e).sound
  accepted_sound v (Call.Withdraw page) n e = (withdraw_tests widths sizes v.state page e).sound
  accepted_sound v (Call.Erase slots) n e =
      let a = held (volume_fits widths sizes v) _ _ e in
      let b = held (table_sound sizes.pages sizes.slots (slot_at v.flash.words)) _ _ a.1 in
      (held (state_sound sizes.pages (state_at v.state)) _ _ b.1).0
  accepted_sound v Call.Recover n e = absurd (never refl n)
  accepted_sound v (Call.Clean block) n e = (clean_tests widths sizes v block e).sound
  accepted_sound v Call.Sweep n e =
      let a = held (volume_fits widths sizes v) _ _ e in
      let b = held (table_sound sizes.pages sizes.slots (slot_at v.flash.words)) _ _ a.1 in
      (held (state_sound sizes.pages (state_at v.state)) _ _ b.1).0

  only_recover : (call : Call) → is_recover call ≡ true → call ≡ Call.Recover
  unfolding is_recover
  only_recover (Call.Launch pages) e = absurd (never e refl)
  only_recover (Call.Write page slot bytes) e = absurd (never e refl)
  only_recover (Call.Withdraw page) e = absurd (never e refl)
  only_recover (Call.Erase slots) e = absurd (never e refl)
  only_recover Call.Recover e = refl
  only_recover (Call.Clean block) e = absurd (never e refl)
  only_recover Call.Sweep e = absurd (never e refl)

  -- What holds along a script: promise 3's invariant, and that a state which is lost is wiped.
  pub record Reached (x : World) (m : Model) : Type 0 where
    pub holding : Holding back_pointer_lem widths sizes x m
    pub wiped : x.lost ≡ true → x.volume.state ≡ wiped_state sizes

  pub holding_fits : (x : World) (m : Model) → Holding back_pointer_lem widths sizes x m → FitsIn back_pointer.layout widths sizes x.volume
  holding_fits x m (known found fits live) = fits
  holding_fits x m (unknown lost fits l) = fits

  refused_lost : (x : World) (m : Model) → Reached x m → x.lost ≡ true → (call : Call) → is_recover call ≡ false → ¬ (answer_is back_pointer_lem widths sizes x.volume call ≡ 0)
  refused_lost x m k l call n e =
      wiped_unsound sizes (holding_fits x m k.holding).bounds.one_page
      (subst (λ (s : List ℕ). state_sound sizes.pages (state_at s) ≡ true) (k.wiped l) (accepted_sound x.volume call n e))

  -- … so it has no cut; and a recover, which comes then too, plans no stage
  lost_uncut : (x : World) (m : Model) → Reached x m → x.lost ≡ true → (call : Call) → flash_stages back_pointer widths sizes x.volume call ≡ []
  unfolding planned_stages flash_stages
  lost_uncut x m k l call =
      on_test (is_recover call)
      (λ r. ap (flash_stages back_pointer widths sizes x.volume) (only_recover call r) ∙ either_way (eqb (perform back_pointer widths sizes x.volume Call.Recover).answer 0))
      (λ n. refused_stages back_pointer_lem widths sizes x.volume call (refused_lost x m k l call n))
    where
      either_way : (b : Bool) → cond {A = List (List Step)} b [] [] ≡ []
      either_way true = refl
      either_way false = refl

  -- ---- step by step

  -- where an event keeps to the premises, the cut after it comes back the same
  kept_same : (x : World) (m : Model) (e : Event) → Holding back_pointer_lem widths sizes x m → keeps_to sizes.pages x e ≡ true → (happens back_pointer widths sizes x e).volume.state ≡ wiped_state sizes → same_after back_pointer widths sizes x m e ≡ true
  unfolding same_after
  kept_same x m e h k w =
      let v = (happens back_pointer widths sizes x e).volume in
      back_again back_pointer widths sizes v _
      (holding_recovers back_pointer_lem widths sizes (happens back_pointer widths sizes x e) (learns m (told back_pointer widths sizes x e)) (event_keeps back_pointer_lem widths sizes x m e h k) v.state (ap length w ∙ wiped_long sizes))

  -- the cuts in one step of the script
  none_in : (x : World) (m : Model) → Reached x m → (r : Recorded) → differs (cuts_in back_pointer widths sizes x m r) ≡ 0
  unfolding cuts_in points_from differs keeps_to happens
  none_in x m k Recorded.Cut = refl
  none_in x m k (Recorded.Makes call) =
      on_test x.lost
      (λ l. rw (lost_uncut x m k l call))
      (λ n. none_of _ (λ c. kept_same x m (Event.CrashIn call c.stage c.done (wiped_state sizes)) k.holding
      (both {a = cond x.lost (is_recover call) true} (rw n) (eq-eqb _ _ (wiped_long sizes))) refl) (points_from 0 (flash_stages back_pointer widths sizes x.volume call)))

  -- a refused call changes nothing
  refused_same : (x : World) (call : Call) → is_recover call ≡ false → ¬ (answer_is back_pointer_lem widths sizes x.volume call ≡ 0) → happens back_pointer widths sizes x (Event.Returns call) ≡ x
  unfolding happens still_lost
  refused_same x call r n = ap₂ (λ (v : Volume) (b : Bool). record { volume = v; lost = b }) (refused_leaves back_pointer_lem widths sizes x.volume call n) (rw r (and_true x.lost))

  makes : (x : World) (m : Model) → Reached x m → (call : Call) → Reached (happens back_pointer widths sizes x (Event.Returns call)) (learns m (told back_pointer widths sizes x (Event.Returns call)))
  unfolding keeps_to happens still_lost told perform with_state
  makes x m k call =
      on_test x.lost
      (λ l. on_test (is_recover call)
      (λ r.
      let a = (holding_recovers back_pointer_lem widths sizes x m k.holding x.volume.state (holding_fits x m k.holding).state_sized).recover_answers_lem in
      let e = ap (λ (c : Call). (perform back_pointer widths sizes x.volume c).answer) (only_recover call r) ∙ a in
      record {
        holding = event_keeps back_pointer_lem widths sizes x m (Event.Returns call) k.holding (rw (l, r));
        wiped = λ w. absurd (never w (rw (l, r, e)));
      })
      (λ r.
      let n = refused_lost x m k l call r in
      let same = refused_same x call r n in
      let learnt : learns m (told back_pointer widths sizes x (Event.Returns call)) ≡ m = learns_refused m call _ (λ e. n (sym (performs back_pointer_lem widths sizes x.volume call) ∙ e)) in
      subst (λ (m : Model). Reached (happens back_pointer widths sizes x (Event.Returns call)) m) (sym learnt)
      (subst (λ (x : World). Reached x m) (sym same) k)))
      (λ n. record {
        holding = event_keeps back_pointer_lem widths sizes x m (Event.Returns call) k.holding (rw n);
        wiped = λ w. absurd (never w (rw n));
      })

  pub reached_step : (x : World) (m : Model) → Reached x m → (r : Recorded) → Reached (happens back_pointer widths sizes x (event_of sizes r)) (learns m (told back_pointer widths sizes x (event_of sizes r)))
  unfolding event_of keeps_to happens
  reached_step x m k (Recorded.Makes call) = makes x m k call
  reached_step x m k Recorded.Cut =
      record {
        holding = event_keeps back_pointer_lem widths sizes x m (Event.Crash (wiped_state sizes)) k.holding (eq-eqb _ _ (wiped_long sizes));
        wiped = λ l. refl;
      }

  none_differs : (x : World) (m : Model) → Reached x m → (script : List Recorded) → differs (cuts_from back_pointer widths sizes x m script) ≡ 0
  unfolding cuts_from differs
  none_differs x m k [] = refl
  none_differs x m k (r ∷ script) =
      let a = none_in x m k r in
      let b = none_differs (happens back_pointer widths sizes x (event_of sizes r)) (learns m (told back_pointer widths sizes x (event_of sizes r))) (reached_step x m k r) script in
      differs_append (cuts_in back_pointer widths sizes x m r) _ ∙ ap₂ ◌+◌ a b

-- a script begins so
pub reached_first : (widths : Widths) (sizes : Sizes) (v : Volume) → (format_outcome_in back_pointer.layout widths sizes v).answer ≡ 0 → Reached widths sizes (started back_pointer widths sizes v) (fresh_model sizes.width)
unfolding started
reached_first widths sizes v e = record { holding = starts back_pointer_lem widths sizes v e; wiped = λ l. absurd (never l refl) }

-- our own erase
pub own_erase : erasing false ≡ back_pointer
unfolding erase_outcome_by answer_by erase_outcome
own_erase = refl

-- the trial one
trial_done : (widths : Widths) (sizes : Sizes) (v : Volume) (slots : List ℕ) → erase_answer widths sizes v slots ≡ 12
    → erase_outcome_by true widths sizes v slots ≡ record { answer = 0; second = 0; left = apply_all sizes.width v.flash (erase_steps slots) }
unfolding erase_outcome_by answer_by settled
trial_done widths sizes v slots e = rw e

trial_else : (widths : Widths) (sizes : Sizes) (v : Volume) (slots : List ℕ) → ¬ (erase_answer widths sizes v slots ≡ 12) → erase_outcome_by true widths sizes v slots ≡ erase_outcome widths sizes v slots
unfolding erase_outcome_by answer_by erase_outcome
trial_else widths sizes v slots n = rw (ne_eqb (erase_answer widths sizes v slots) 12 n)

pub cut_everywhere : (widths : Widths) → CutEverywhere widths
unfolding cuts_of
cut_everywhere widths =
    record {
      counted = λ trial sizes v script. cuts_number (erasing trial) widths sizes (started (erasing trial) widths sizes v) (fresh_model sizes.width) script;
      either = λ trial sizes v script. same_or_not (cuts_of (erasing trial) widths sizes v script);
      own_calls = own_erase;
      same_layout = refl;
      same_plan = refl;
      same_write = refl;
      same_recover = refl;
      trial_done = trial_done widths;
      trial_else = trial_else widths;
      none_differs = none;
      all_same = λ sizes v e script. let n = none sizes v e script in let s = same_or_not (cuts_of (erasing false) widths sizes v script) in omega arith;
    }
  where
    none : (sizes : Sizes) (v : Volume) → (format_outcome_in back_pointer.layout widths sizes v).answer ≡ 0 → (script : List Recorded) → differs (cuts_of (erasing false) widths sizes v script) ≡ 0
    none sizes v e script =
        subst (λ (F : Family). differs (cuts_of F widths sizes v script) ≡ 0) (sym own_erase)
        (none_differs widths sizes (started back_pointer widths sizes v) (fresh_model sizes.width) (reached_first widths sizes v e) script)

-- What recovery on a state of zeros gives is what the volume comes to.
use Rattle.std.specs.Prelude.{ℕ, ◌*◌, ◌≤◌, ◌≡◌, List, true, length, replicate, Ok, Err}
use Rattle.std.proofs.Common.{arith, ◌∙◌, eq-eqb, ne_eqb}
use Rattle.std.proofs.Math.Path.{sym, ap}
use Rattle.bounded.specs.Limits.{Widths}
use Rattle.outcome.specs.declared.Refusal.{Refusal}
use Rattle.outcome.specs.Outcome.{Outcome}
use Rattle.outcome.specs.OutcomeLaws.{held, settled_answer}
use Rattle.outcome.specs.Reply.{outcome_of}
use Rattle.outcome.specs.Result.{number_of, number_positive}
use Rattle.sizes.specs.declared.Layout.TheVariants.{FiveWords}
use Rattle.sizes.specs.declared.Sizes.{Sizes}
use Rattle.sizes.specs.Sizes.{sizes_ok}
use Rattle.sizes.proofs.SizesLaws.{sizes_facts}
use Rattle.record.specs.Slot.{slot_at}
use Rattle.record.specs.Flash.{flash}
use Rattle.state.specs.State.{state_at}
use Rattle.state.specs.StateLaws.{length_state_words}
use Rattle.chain.specs.Chain.{Linkable}
use Rattle.rules.specs.Volume.{volume, volume_fits}
use Rattle.rules.specs.Recover.{recovered, recover_answer, recover_outcome}
use Rattle.rules.proofs.laws.Accepted.{recover_tests_lem}
use Rattle.rules.proofs.laws.Recover.{recover_fills}
use Rattle.rules.proofs.laws.Chains.{volume_spans}
use Rattle.permit.specs.Prepared.{judged_linkable}
use Rattle.fleet.specs.declared.Figures.{Figures}
use Rattle.fleet.specs.Entry.{Counted, Refused, comes_to}
use Rattle.upkeep.specs.Doubtful.{recovery_of}
use Rattle.fleet.specs.Figures.{figures_of, entry_of}

-- a state has room in 1,024 words
pub state_most : (widths : Widths) (sizes : Sizes) → sizes_ok widths sizes ≡ true → 4 * sizes.pages ≤ 1024
state_most widths sizes e = let m = (sizes_facts widths sizes e).0.pages_most in omega arith

module _ (widths : Widths) (sizes : Sizes) (words contents : List ℕ) where
  abbrev recovery : Outcome (List ℕ)
  recovery = recovery_of widths sizes (flash words contents)

  module _ {state : List ℕ} (zeros : state ≡ replicate (4 * sizes.pages) 0) (left : List ℕ) where
    recovers : (answer second : ℕ) → outcome_of answer second left ≡ recover_outcome widths sizes (volume words contents state) → outcome_of answer second left ≡ recovery
    unfolding recovery_of
    recovers answer second says = rw zeros at says

    -- it refuses,
    pub entry_refused : (refusal : Refusal) → outcome_of (number_of refusal) 0 left ≡ recover_outcome widths sizes (volume words contents state) → comes_to (Err refusal) ≡ entry_of widths sizes (flash words contents)
    unfolding entry_of
    entry_refused refusal says =
        let is = ap (λ (o : Outcome (List ℕ)). o.answer) (recovers (number_of refusal) 0 says) in
        rw (ne_eqb recovery.answer 0 (λ z. number_positive refusal (is ∙ z))) (ap Refused is)

    -- or leaves the state that the volume is counted by:
    module _ (links : ℕ) (says : outcome_of 0 links left ≡ recover_outcome widths sizes (volume words contents state)) where
      pub entry_counted : {figures : Figures} → figures ≡ figures_of sizes.pages sizes.slots (slot_at words) (state_at left) → comes_to (Ok figures) ≡ entry_of widths sizes (flash words contents)
      unfolding entry_of
      entry_counted e =
          let is = recovers 0 links says in
          rw (eq-eqb recovery.answer 0 (sym (ap (λ (o : Outcome (List ℕ)). o.answer) is)))
          (ap Counted (e ∙ ap (λ (o : Outcome (List ℕ)). figures_of sizes.pages sizes.slots (slot_at words) (state_at o.left)) is))

      accepted : recover_answer widths sizes (volume words contents state) ≡ 0
      unfolding recover_outcome
      accepted = sym (settled_answer (recover_answer widths sizes (volume words contents state)) _ _ _ _) ∙ ap (λ (o : Outcome (List ℕ)). o.answer) (sym says)

      -- its table is sound,
      pub recovered_linkable : Linkable sizes.pages sizes.slots words
      unfolding recover_answer
      recovered_linkable =
          judged_linkable sizes.pages sizes.slots words state
          (volume_spans FiveWords widths sizes (volume words contents state) (held (volume_fits widths sizes (volume words contents state)) _ _ accepted).0)
          (recover_tests_lem widths sizes (volume words contents state) accepted).sound

      -- and the state has all its pages
      pub recovered_pages : 4 * sizes.pages ≤ length left
      recovered_pages =
          let e = ap (λ (o : Outcome (List ℕ)). length o.left) (says ∙ recover_fills widths sizes (volume words contents state) accepted) in
          let l = length_state_words sizes.pages (recovered sizes.pages sizes.slots (slot_at words)) in
          omega arith

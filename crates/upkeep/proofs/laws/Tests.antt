-- What clean and pick try, in their order; what an accepted cleaning has tested; and what a cleaning leaves, accepted or refused.
use Rattle.std.specs.Prelude.{◌≤◌, ℕ, true, List, ◌≡◌, eqb, length}
use Rattle.std.proofs.Common.{◌∙◌, sym, ltb-false, ne_eqb}
use Rattle.bounded.specs.Choice.{and_false, and_true}
use Rattle.bounded.specs.Limits.{Widths}
use Rattle.outcome.specs.Chain.{both_pass, first_of}
use Rattle.outcome.specs.Outcome.{◌⇒◌otherwise◌}
use Rattle.outcome.specs.OutcomeLaws.{passed, settled_done, settled_refused}
use Rattle.sizes.specs.Blocks.{NamedBlock, block_at, block_ok, starts_ok}
use Rattle.sizes.specs.declared.Sizes.{Sizes}
use Rattle.record.specs.Flash.{apply_all}
use Rattle.record.specs.Slot.{slot_at}
use Rattle.state.specs.State.{state_at, state_sound}
use Rattle.table.specs.Table.{table_sound}
use Rattle.rules.specs.Volume.{Volume, volume_fits}
use Rattle.rules.specs.laws.Chains.{block_judged}
use Rattle.rules.proofs.laws.Chains.{block_judged_passed, block_chain}
use Rattle.rules.specs.laws.Volume.{Fits}
use Rattle.rules.proofs.laws.Volume.{fits_facts}
use Rattle.upkeep.specs.Clean.{clean_answer, clean_from, clean_outcome, clean_steps, clean_to, too_few_blank}
use Rattle.upkeep.specs.Pick.{pick_answer}

-- clean: 15
unfoldable pub clean_own : Sizes → Volume → NamedBlock → ℕ
clean_own sizes v block = too_few_blank sizes v (block_at sizes.slots block) ⇒ 15 otherwise 0

pub clean_chain : (widths : Widths) (sizes : Sizes) (v : Volume) (block : NamedBlock) → clean_answer widths sizes v block ≡ first_of (block_judged widths sizes v block) (clean_own sizes v block)
unfolding clean_answer clean_own
clean_chain widths sizes v block = block_chain widths sizes v block _

-- pick: 18, and before all the number of lent words
unfoldable pub pick_own : (n : ℕ) → ℕ
pick_own n = eqb n 0 ⇒ 18 otherwise 0

module _ (widths : Widths) (sizes : Sizes) (v : Volume) (block : NamedBlock) (n : ℕ) (out : List ℕ) where
  pub pick_chain : length out ≡ 4 → pick_answer widths sizes v block n out ≡ first_of (block_judged widths sizes v block) (pick_own n)
  unfolding pick_answer pick_own
  pick_chain e = rw (e, and_true (volume_fits widths sizes v)) (block_chain widths sizes v block _)

  pub pick_length : ¬ (length out ≡ 4) → pick_answer widths sizes v block n out ≡ 1
  unfolding pick_answer
  pick_length d = rw (ne_eqb (length out) 4 d, and_false (volume_fits widths sizes v))

pub record CleanTests (widths : Widths) (sizes : Sizes) (v : Volume) (block : NamedBlock) : Type 0 where
  pub fits : Fits widths sizes v
  pub table : table_sound sizes.pages sizes.slots (slot_at v.flash.words) ≡ true
  pub sound : state_sound sizes.pages (state_at v.state) ≡ true
  pub starts_sound : starts_ok sizes.slots block.starts ≡ true
  pub named : block_ok block ≡ true
  pub room : length (clean_from sizes v (block_at sizes.slots block)) ≤ length (clean_to sizes v (block_at sizes.slots block))

pub clean_tests : (widths : Widths) (sizes : Sizes) (v : Volume) (block : NamedBlock) → clean_answer widths sizes v block ≡ 0 → CleanTests widths sizes v block
unfolding clean_own too_few_blank
clean_tests widths sizes v block e =
    let parts = both_pass (block_judged widths sizes v block) (clean_own sizes v block) (sym (clean_chain widths sizes v block) ∙ e) in
    let j = block_judged_passed widths sizes v block parts.0 in
    let f = passed (too_few_blank sizes v (block_at sizes.slots block)) _ _ parts.1 in
    record { fits = fits_facts widths sizes v j.fitting; table = j.table; sound = j.sound; starts_sound = j.starts_sound; named = j.named; room = ltb-false _ _ f.0 }

module _ (widths : Widths) (sizes : Sizes) (v : Volume) (block : NamedBlock) where
  pub clean_refused : ¬ (clean_answer widths sizes v block ≡ 0) → clean_outcome widths sizes v block ≡ record { answer = clean_answer widths sizes v block; second = 0; left = v.flash }
  unfolding clean_outcome
  clean_refused h = settled_refused (clean_answer widths sizes v block) 0 0 v.flash (apply_all sizes.width v.flash (clean_steps sizes v (block_at sizes.slots block))) h

  pub clean_done : clean_answer widths sizes v block ≡ 0 → clean_outcome widths sizes v block ≡ record { answer = 0; second = 0; left = apply_all sizes.width v.flash (clean_steps sizes v (block_at sizes.slots block)) }
  unfolding clean_outcome
  clean_done e = settled_done (clean_answer widths sizes v block) 0 0 v.flash (apply_all sizes.width v.flash (clean_steps sizes v (block_at sizes.slots block))) e

-- The slots found are the definition's, so the steps that the two loops do are those fixed before.
use native.Mathlib.Omega.{arith}
use borrow.Author.Tests.{lt-ltb, le-ltb}
use mathlib.Core.Path.{ap, ◌∙◌}
use Rattle.upkeep.specs.Clean.{clean_to, too_few_blank}
use Rattle.outcome.specs.Reply.{outcome_of}
use Rattle.outcome.specs.Result.{refused, done}
use Rattle.outcome.specs.declared.Refusal.TheVariants.{TooFewBlank}
use Rattle.clean.specs.CleanLaws.{room_answer, copies_begin, steps_done}
use Rattle.clean.proofs.clean_block.Goals as goal

pub returns-then-to-from : goal.returns-then-to-from
unfolding room_answer too_few_blank clean_to
returns-then-to-from c =
    let from = c.as_slice-from.ensures ∙ c.find_copied.ensures in
    let to = c.as_slice-to.ensures ∙ c.find_blank.ensures in
    refused 0 0 _ _ TooFewBlank (rw (← from, ← to, lt-ltb _ _ c.if-to-from.true))

pub copy_slots-requires : goal.copy_slots-requires
unfolding clean_to
copy_slots-requires c = let p = c.requires in
    let from = c.as_slice-from.ensures ∙ c.find_copied.ensures in
    let to = c.as_slice-to.ensures ∙ c.find_blank.ensures in
    record { copying = copies_begin _ _ _ _ _ from to p c.if-to-from.false; width_bound = p.flash_sound.width_few }

pub blank_block-requires : goal.blank_block-requires
blank_block-requires c = let p = c.requires in
    let words = c.copy_slots.auto.words ∙ p.flash_sound.flash_sized.words_sized in
    let contents = c.copy_slots.auto.contents ∙ p.flash_sound.flash_sized.contents_sized in
    record { block_in = p.block_in; slots_in_bounds = omega arith; slots_in_bounds_2 = omega arith; width_bound = p.flash_sound.width_few }

pub returns : goal.returns
unfolding room_answer too_few_blank clean_to
returns c =
    let from = c.as_slice-from.ensures ∙ c.find_copied.ensures in
    let to = c.as_slice-to.ensures ∙ c.find_blank.ensures in
    ap (outcome_of 0 0) (steps_done _ _ _ _ _ from to c.copy_slots.ensures c.blank_block.ensures)
    ∙ done 0 0 _ _ (rw (← from, ← to, le-ltb _ _ c.if-to-from.false))

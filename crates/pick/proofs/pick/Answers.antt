-- Refused: the answer and the words as they were. Accepted: the four words.
use mathlib.Core.Path.{sym, ap, ◌∙◌}
use Rattle.outcome.specs.Reply.{outcome_of}
use Rattle.outcome.specs.Result.{given_back, number_positive, refused, done}
use Rattle.outcome.specs.declared.Refusal.TheVariants.{WrongSize, NothingToLookAt}
use Rattle.sizes.specs.Blocks.{named}
use Rattle.sizes.proofs.BlocksLaws.{starts_facts}
use Rattle.rules.specs.Volume.{volume}
use Rattle.upkeep.specs.Pick.{pick_outcome}
use Rattle.upkeep.proofs.laws.Tests.{pick_length}
use Rattle.pick.specs.PickLaws.{judged_refuses, none_refused, all_passed, pickable, looked_most, words_picked}
use Rattle.pick.proofs.pick.Goals as goal

pub returns-then-out-ne-WORDS : goal.returns-then-out-ne-WORDS
unfolding pick_outcome
returns-then-out-ne-WORDS c = refused 0 0 _ _ WrongSize (sym (pick_length _ _ _ _ _ _ c.if-out-ne-WORDS.true))

pub returns-in_err-judged : goal.returns-in_err-judged
unfolding pick_outcome
returns-in_err-judged c =
    rw (given_back c.from_residual.result c.from_residual.ensures.1) (refused 0 0 _ _ _ (judged_refuses _ _ _ _ _ _ c.if-out-ne-WORDS.false c.in_err-judged.ensures (number_positive _)))

pub returns-then-n-eq0 : goal.returns-then-n-eq0
unfolding pick_outcome
returns-then-n-eq0 c = refused 0 0 _ _ NothingToLookAt (none_refused _ _ _ _ _ _ c.if-out-ne-WORDS.false c.in_ok-judged.ensures c.if-n-eq0.true)

pub looked_at-looked-requires : goal.looked_at-looked-requires
looked_at-looked-requires c = (starts_facts _ _ (pickable _ _ _ _ _ c.in_ok-judged.ensures).starts_sound).starts_most

pub best-best-requires : goal.best-best-requires
best-best-requires c = let p = pickable _ _ _ _ _ c.in_ok-judged.ensures in
    record { linkable = p.linkable; pages_in_bounds = p.pages_in_lem; slots_in_bounds = p.bytes_in; starts_value = p.starts_sound; block_in_bounds = p.there; looked_in_bounds = looked_most _ _ (c.looked_at-looked.ensures 0) }

pub largest_unseen-largest-requires : goal.largest_unseen-largest-requires
largest_unseen-largest-requires c = let p = pickable _ _ _ _ _ c.in_ok-judged.ensures in
    record { starts_value = p.starts_sound; block_in_bounds = p.there; looked_in_bounds = looked_most _ _ (c.looked_at-looked.ensures 0) }

pub returns : goal.returns
unfolding pick_outcome
returns c = let a = c.args in
    let v = volume a.words.now a.contents.now a.state.now in
    let block = named a.starts.now a.block in
    let passed = c.in_ok-judged.ensures in
    let there = (pickable a.sizes a.words.now a.contents.now a.state.now block passed).there in
    ap (outcome_of 0 0) (c.copy_from_slice.ensures.after ∙ words_picked a.sizes v block there a.n (c.looked_at-looked.ensures a.block) c.best-best.ensures c.largest_unseen-largest.ensures c.lead-lead.ensures)
    ∙ done 0 0 _ _ (all_passed _ a.sizes v block _ _ c.if-out-ne-WORDS.false passed c.if-n-eq0.false)

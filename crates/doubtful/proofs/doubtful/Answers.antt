-- Refused: the answer and the words as they were. Accepted: the number of fillings that recover, and each page's two ends.
use Prim.Native.Nat.{ℕ}
use mathlib.Core.Path.{sym, ap₂, ◌∙◌}
use mathlib.Core.List.{List}
use lib.ListN.{replicate}
use lib.Seq.{length-take-le}
use Rattle.outcome.specs.Reply.{outcome_of}
use Rattle.outcome.specs.Result.{given_back, number_positive, refused, done}
use Rattle.outcome.specs.declared.Refusal.TheVariants.{NoFillingRecovers}
use Rattle.upkeep.specs.Doubtful.{doubtful_outcome}
use Rattle.doubtful.specs.Fillable.{words_most, state_most}
use Rattle.doubtful.specs.Tested.{test_refuses, none_recovers, some_recovers, tested_right}
use Rattle.doubtful.proofs.doubtful.Goals as goal

pub returns-in_err-judged : goal.returns-in_err-judged
unfolding doubtful_outcome
returns-in_err-judged c =
    rw (given_back c.from_residual.result c.from_residual.ensures.1) (refused 0 _ _ _ _ (test_refuses _ _ _ _ _ c.in_err-judged.ensures (number_positive _)))

pub slice_bounds-filled-end : goal.slice_bounds-filled-end
slice_bounds-filled-end c = words_most _ _ _ (tested_right _ _ _ _ _ c.in_ok-judged.ensures).0

pub slice_bounds-recover_fillings-end : goal.slice_bounds-recover_fillings-end
slice_bounds-recover_fillings-end c = sym (length-take-le _ (replicate 5120 0) (words_most _ _ _ (tested_right _ _ _ _ _ c.in_ok-judged.ensures).0))

pub slice_bounds-state-end : goal.slice_bounds-state-end
slice_bounds-state-end c = state_most _ _ _ (tested_right _ _ _ _ _ c.in_ok-judged.ensures).0

pub slice_bounds-recover_fillings-end-2 : goal.slice_bounds-recover_fillings-end-2
slice_bounds-recover_fillings-end-2 c = sym (length-take-le _ (replicate 1024 0) (state_most _ _ _ (tested_right _ _ _ _ _ c.in_ok-judged.ensures).0))

pub invariant_of-flash : goal.invariant_of-flash
invariant_of-flash c = record { fillable = (tested_right _ _ _ _ _ c.in_ok-judged.ensures).1 }

pub recover_fillings-count-requires : goal.recover_fillings-count-requires
recover_fillings-count-requires c = let f = tested_right _ _ _ _ _ c.in_ok-judged.ensures in
    record { filled_len = length-take-le _ (replicate 5120 0) (words_most _ _ _ f.0); state_len = length-take-le _ (replicate 1024 0) (state_most _ _ _ f.0); out_len = f.0.out_sized }

pub returns-then-count-eq0 : goal.returns-then-count-eq0
unfolding doubtful_outcome
returns-then-count-eq0 c = let r = c.recover_fillings-count in
    let none = c.if-count-eq0.true in
    rw (r.ensures.out_unchanged none) (refused 0 _ _ _ NoFillingRecovers (none_recovers _ _ _ _ _ c.in_ok-judged.ensures r.ensures.value none))

pub returns : goal.returns
unfolding doubtful_outcome
returns c = let r = c.recover_fillings-count in
    let some = c.if-count-eq0.false in
    ap₂ (outcome_of {B = List ℕ} 0) r.ensures.value (r.ensures.out_after some)
    ∙ done 0 _ _ _ (some_recovers _ _ _ _ _ c.in_ok-judged.ensures r.ensures.value some)

use Prim.Native.Nat.{ℕ}
use native.Mathlib.Omega.{arith}
use mathlib.Core.Path.{◌≡◌, sym, ap, ◌∙◌}
use mathlib.Core.List.{List}
use borrow.Author.Tests.{lt-ltb, eqb-true, eqb-false}
use lib.ListN.{length, get_or, set}
use Rattle.bounded.specs.Choice.{told}
use Rattle.bounded.specs.BelowLaws.{all_zero, all_more}
use Rattle.sizes.specs.Lists.{ranged_at, list_empty, list_out_of_range, list_repeats, list_passes}
use Rattle.sizes.specs.Marks.{marks_none, marks_more, marked_repeats, unmarked_new}
use Rattle.sizes.proofs.list_ok.Goals as goal
use Rattle.sizes.proofs.list_ok.Goals.{then-entry-bound-via-then-entry-bound, then-entry-bound-via-else-entry-bound+then-marks-entry-ne0}

pub returns-then-is_empty : goal.returns-then-is_empty
returns-then-is_empty c = sym (list_empty _ _ (let e = eqb-true _ _ (told c.is_empty.ensures c.if-is_empty.true) in omega arith))

pub loop-entry-init : goal.loop-entry-init
loop-entry-init c = (all_zero _, all_zero _, marks_none _ 1024)

pub returns-then-entry-bound : goal.returns-then-entry-bound
returns-then-entry-bound c = let l = c.loop-entry in
    elim c.then-entry-bound.branch [
      | then-entry-bound-via-then-entry-bound w ↦ sym (list_out_of_range _ _ l.entry-index c.loop-entry-test.true w.if-entry-bound.true)
      | then-entry-bound-via-else-entry-bound+then-marks-entry-ne0 w ↦ sym (list_repeats _ _ l.entry-index c.loop-entry-test.true (marked_repeats _ l.entry-index 1024 l.marks l.invariant.2 (omega arith) w.if-marks-entry-ne0.true))
    ]

pub loop-entry-preserved : goal.loop-entry-preserved
unfolding ranged_at
loop-entry-preserved c = let l = c.loop-entry in
    let list = c.args.list.now in (
      all_more _ _ l.invariant.0 (lt-ltb _ _ c.if-entry-bound.false),
      all_more _ _ l.invariant.1 (unmarked_new _ l.entry-index 1024 l.marks l.invariant.2 (omega arith) c.if-marks-entry-ne0.false),
      ap (λ (m : List ℕ). set m (get_or list l.entry-index 0) 1) l.invariant.2 ∙ marks_more list l.entry-index 1024 (omega arith),
    )

pub returns : goal.returns
returns c = let l = c.loop-entry in
    let e : l.entry-index ≡ length c.args.list.now = omega arith in
    let some = eqb-false _ _ (told c.is_empty.ensures c.if-is_empty.false) in
    sym (list_passes _ _ (omega arith) (rw e at l.invariant.0) (rw e at l.invariant.1))

use native.Mathlib.Omega.{arith}
use mathlib.Core.Path.{◌≡◌, sym}
use lib.ListN.{length}
use borrow.Author.Tests.{eqb-true, eqb-false}
use Rattle.bounded.specs.Choice.{told}
use Rattle.bounded.specs.BelowLaws.{all_zero, all_more}
use Rattle.sizes.proofs.BlocksLaws.{has_slot_lem, no_slot, starts_fail, starts_pass}
use Rattle.sizes.proofs.blocks.starts_ok.Goals as goal
use Rattle.sizes.proofs.blocks.starts_ok.Goals.{then-is_empty-via-then-is_empty, then-is_empty-via-else-is_empty+then-starts-gt-MAX_BLOCKS, then-is_empty-via-else-is_empty+else-starts-gt-MAX_BLOCKS+then-starts-ne0}

pub returns-then-is_empty : goal.returns-then-is_empty
returns-then-is_empty c = sym (starts_fail _ _ (λ f.
    elim c.then-is_empty.branch [
      | then-is_empty-via-then-is_empty w ↦ let e = eqb-true _ _ (told c.is_empty.ensures w.if-is_empty.true) in let h = f.one_start in omega arith
      | then-is_empty-via-else-is_empty+then-starts-gt-MAX_BLOCKS w ↦ let h = f.starts_most in let l = w.if-starts-gt-MAX_BLOCKS.true in omega arith
      | then-is_empty-via-else-is_empty+else-starts-gt-MAX_BLOCKS+then-starts-ne0 w ↦ w.if-starts-ne0.true f.first_zero
    ]))

pub loop-i-init : goal.loop-i-init
loop-i-init c = all_zero _

pub returns-then-block : goal.returns-then-block
returns-then-block c = sym (no_slot _ _ c.loop-i.i c.block_at-block.ensures c.loop-i-test.true c.if-block.true)

pub loop-i-preserved : goal.loop-i-preserved
loop-i-preserved c = let l = c.loop-i in
    all_more _ _ l.invariant (has_slot_lem _ _ l.i c.block_at-block.ensures c.if-block.false)

pub returns : goal.returns
returns c = let l = c.loop-i in
    let e : l.i ≡ length c.args.starts.now = omega arith in
    let some = eqb-false _ _ (told c.is_empty.ensures c.if-is_empty.false) in
    sym (starts_pass _ _ (rw e at l.invariant) (omega arith) c.if-starts-gt-MAX_BLOCKS.false c.if-starts-ne0.false)

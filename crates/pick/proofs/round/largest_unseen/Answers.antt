use Prim.Native.Nat.{ℕ}
use native.Mathlib.Omega.{arith}
use mathlib.Core.Path.{◌≡◌, ap, ◌∙◌}
use lib.ListN.{length}
use Rattle.std.proofs.lemmas.Bool.Decides.{nat_tests}
use Rattle.bounded.specs.Below.{max_below}
use Rattle.sizes.specs.Blocks.{named}
use Rattle.sizes.proofs.BlocksLaws.{starts_facts}
use Rattle.pick.specs.Picking.{unseen_by}
use Rattle.pick.specs.PickingLaws.{seen_block, seen_there, seen_inside, unseen_none, unseen_more}
use Rattle.pick.proofs.round.largest_unseen.Goals as goal

pub overflow_cast-i-end : goal.overflow_cast-i-end
overflow_cast-i-end c = let m = (starts_facts _ _ c.requires.starts_value).starts_most in omega arith

pub loop-i-init : goal.loop-i-init
loop-i-init c = unseen_none _ _ _

pub seen_at-requires : goal.seen_at-requires
seen_at-requires c = let p = c.requires in
    record { starts_len_bound = (starts_facts _ _ p.starts_value).starts_most; block_in_bounds = p.block_in_bounds; i_in_bounds = c.loop-i-test.true }

pub block_at-unseen-requires : goal.block_at-unseen-requires
block_at-unseen-requires c = seen_there _ _ c.loop-i.i c.seen_at.ensures c.requires.block_in_bounds c.loop-i-test.true

pub overflow_sub-unseen : goal.overflow_sub-unseen
overflow_sub-unseen c = let p = c.requires in
    (seen_inside _ _ c.loop-i.i c.seen_at.ensures p.block_in_bounds c.loop-i-test.true _ p.starts_value c.block_at-unseen.ensures).ordered

pub loop-i-preserved : goal.loop-i-preserved
loop-i-preserved c = let l = c.loop-i in
    unseen_more _ _ _ l.i l.auto.i (seen_block _ _ l.i c.seen_at.ensures _ c.block_at-unseen.ensures) l.invariant (grind (arith, nat_tests))

pub returns : goal.returns
returns c = let l = c.loop-i in
    let a = c.args in
    let e : l.i ≡ length a.starts.now = omega arith in
    l.invariant ∙ ap (λ (n : ℕ). max_below n (unseen_by a.slots (named a.starts.now a.block) a.looked)) e

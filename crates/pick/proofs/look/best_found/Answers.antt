use Prim.Native.Nat.{ℕ}
use native.Mathlib.Omega.{arith}
use mathlib.Core.Path.{◌≡◌, refl, ap, ◌∙◌}
use Rattle.sizes.specs.Blocks.{NamedBlock, named, block_at}
use Rattle.sizes.proofs.BlocksLaws.{starts_facts}
use Rattle.upkeep.specs.Pick.{seen_at}
use Rattle.judge.specs.Marked.{no_marks}
use Rattle.judge.specs.Evidence.{volume_of}
use Rattle.pick.specs.Picking.{frees_by, best_by}
use Rattle.pick.specs.PickingLaws.{seen_block, seen_there, seen_inside, best_none, best_here, best_stays}
use Rattle.pick.proofs.look.best_found.Goals as goal
use Rattle.pick.proofs.look.best_found.Goals.{then-freed-best, else-freed-best}

pub loop-i-init : goal.loop-i-init
loop-i-init c = (no_marks 1024 refl, best_none _ _ c.requires.block_in_bounds)

pub seen_at-seen-requires-clause-starts_len_bound : goal.seen_at-seen-requires-clause-starts_len_bound
seen_at-seen-requires-clause-starts_len_bound c = (starts_facts _ _ c.requires.starts_value).starts_most

pub block_at-slots-requires : goal.block_at-slots-requires
block_at-slots-requires c = let p = c.requires in
    seen_there _ _ c.loop-i.i c.seen_at-seen.ensures p.block_in_bounds (omega arith)

pub frees-freed-requires-clause-block_in : goal.frees-freed-requires-clause-block_in
frees-freed-requires-clause-block_in c = let p = c.requires in
    seen_inside _ _ c.loop-i.i c.seen_at-seen.ensures p.block_in_bounds (omega arith) _ p.starts_value c.block_at-slots.ensures

pub loop-i-preserved : goal.loop-i-preserved
loop-i-preserved c = let l = c.loop-i in
    let a = c.args in
    let e = a.evidence.now in
    let v = volume_of e in
    let block = named a.starts.now a.block in
    let freed : NamedBlock → ℕ = λ b. frees_by e.table.sizes v e.table.found.now (block_at e.table.sizes.slots b) in
    let seen = c.seen_at-seen.ensures in
    let says = c.frees-freed.ensures in
    let slots = c.block_at-slots in
    let counted : c.frees-freed.result ≡ frees_by e.table.sizes v e.table.found.now slots.result = says.value in
    let is_freed_lem : c.frees-freed.result ≡ freed (seen_at block l.i) = counted ∙ ap (frees_by e.table.sizes v e.table.found.now) (seen_block _ _ l.i seen _ slots.ensures) in
    elim c.if-freed-best.branch [
      | then-freed-best w ↦ (says.no_marks_2, w.best-is ∙ best_here block freed l.i l.invariant.1 seen is_freed_lem w.if-freed-best.true)
      | else-freed-best w ↦ (says.no_marks_2, w.best-is ∙ best_stays block freed l.i l.invariant.1 seen is_freed_lem w.if-freed-best.false)
    ]

pub returns : goal.returns
returns c = let l = c.loop-i in
    let a = c.args in
    let e = a.evidence.now in
    let last : l.i ≡ a.looked = omega arith in
    l.invariant.1 ∙ ap (λ (n : ℕ). best_by (named a.starts.now a.block) n (λ b. frees_by e.table.sizes (volume_of e) e.table.found.now (block_at e.table.sizes.slots b))) last

use native.Mathlib.Omega.{arith}
use mathlib.Core.Path.{◌≡◌, sym, ◌∙◌}
use Rattle.bounded.specs.Choice.{told}
use Rattle.bounded.specs.BelowLaws.{all_zero, all_more, all_fails}
use Rattle.rules.specs.Volume.{volume}
use Rattle.cutpoint.specs.ReadLaws.{refuses, passes, refused_unread}
use Rattle.cutpoint.proofs.page.all_kept.Goals as goal

pub returns-then-is_err : goal.returns-then-is_err
returns-then-is_err c = let a = c.args in
    let v = volume a.words.now a.contents.now a.state.now in
    sym (all_fails _ _ 0 (omega arith) (refused_unread _ _ v _ 0 (λ z. refuses _ (told c.is_err.ensures.value c.if-is_err.true) ((rw c.new-volume.ensures at c.judged.ensures) ∙ z))))

pub loop-page-init : goal.loop-page-init
loop-page-init c = all_zero _

pub is_kept-requires : goal.is_kept-requires
is_kept-requires c = record { state_value = sym (rw c.new-volume.ensures at c.judged.ensures) ∙ passes _ (told c.is_err.ensures.value c.if-is_err.false); page_lt_pages = c.loop-page-test.true; pages_in_bounds = c.requires.pages_in_bounds }

pub returns-then-not-is_kept : goal.returns-then-not-is_kept
returns-then-not-is_kept c = sym (all_fails _ _ c.loop-page.page c.loop-page-test.true (told c.is_kept.ensures c.if-not-is_kept.true))

pub loop-page-preserved : goal.loop-page-preserved
loop-page-preserved c = all_more _ _ c.loop-page.invariant (told c.is_kept.ensures c.if-not-is_kept.false)

pub returns : goal.returns
returns c = let l = c.loop-page in
    let e : l.page ≡ c.args.sizes.pages = omega arith in
    sym (rw e at l.invariant)

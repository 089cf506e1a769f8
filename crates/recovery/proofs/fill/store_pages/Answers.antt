use native.Mathlib.Omega.{arith}
use Prim.Native.Nat.{ℕ}
use mathlib.Core.Path.{◌≡◌, refl, ap, ◌∙◌}
use mathlib.Core.List.{List}
use lib.ListN.{get_or}
use Rattle.bounded.specs.Parts.{put_part}
use Rattle.bounded.specs.Fill.{filled, filled_none, filled_more, filled_all}
use Rattle.state.specs.declared.PageState.{PageState}
use Rattle.state.specs.State.{page_words, state_words}
use Rattle.state.specs.StateLaws.{length_page_words}
use Rattle.state.specs.Change.{at_rest}
use Rattle.recovery.proofs.fill.store_pages.Goals as goal

pub loop-page-init : goal.loop-page-init
loop-page-init c = (refl, filled_none _ _ _)

pub loop-page-preserved : goal.loop-page-preserved
unfolding at_rest
loop-page-preserved c = let a = c.args in
    let l = c.loop-page in
    let rest : PageState = at_rest (get_or a.committed.now l.page 0) (get_or a.used.now l.page 0) in (
      c.put_page.auto.state ∙ l.invariant.0,
      c.put_page.ensures ∙ ap (λ (s : PageState). put_part 4 l.page (page_words s) l.state) c.at_rest.ensures ∙ ap (put_part 4 l.page (page_words rest)) l.invariant.1 ∙ filled_more 4 _ _ l.page,
    )

pub shape_of-state : goal.shape_of-state
shape_of-state c = c.loop-page.invariant.0

pub returns : goal.returns
unfolding state_words
returns c = let l = c.loop-page in
    let a = c.args in
    let e : l.page ≡ a.pages = omega arith in
    let f : ℕ → List ℕ = λ p. page_words (at_rest (get_or a.committed.now p 0) (get_or a.used.now p 0)) in
    l.invariant.1
    ∙ ap (λ (n : ℕ). filled 4 f n a.state.now) e
    ∙ filled_all 4 f a.state.now a.pages c.requires.state_len (λ k. length_page_words _)

use Prim.Native.Nat.{ℕ}
use native.Mathlib.Omega.{arith}
use mathlib.Core.Path.{◌≡◌, refl, ap, ◌∙◌}
use Rattle.bounded.specs.Parts.{put_part}
use Rattle.bounded.specs.Fill.{filled, filled_none, filled_more}
use Rattle.state.specs.declared.PageState.{PageState}
use Rattle.state.specs.State.{page_words}
use Rattle.state.specs.Change.{at_rest, fresh_state}
use Rattle.volume.specs.FormatLaws.{state_filled}
use Rattle.volume.proofs.format_state.Invariants.{fresh_page}
use Rattle.volume.proofs.format_state.Goals as goal

pub loop-p-init : goal.loop-p-init
loop-p-init c = (filled_none 4 fresh_page _, refl)

pub loop-p-preserved : goal.loop-p-preserved
unfolding fresh_page fresh_state at_rest
loop-p-preserved c = let a = c.args in
    let l = c.loop-p in
    let s = c.put_page in (
      s.ensures ∙ ap (λ (x : PageState). put_part 4 l.p (page_words x) l.state) c.at_rest.ensures ∙ ap (put_part 4 l.p (fresh_page l.p)) l.invariant.0 ∙ filled_more 4 fresh_page a.state.now l.p,
      s.auto.state ∙ l.invariant.1,
    )

pub returns : goal.returns
unfolding fresh_page
returns c = let a = c.args in
    let l = c.loop-p in
    let e : l.p ≡ a.pages = omega arith in
    l.invariant.0 ∙ ap (λ (n : ℕ). filled 4 fresh_page n a.state.now) e ∙ state_filled a.pages fresh_state a.state.now c.requires

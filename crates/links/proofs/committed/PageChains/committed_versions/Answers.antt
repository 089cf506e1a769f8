use native.Mathlib.Omega.{arith}
use Prim.Native.Nat.{ℕ, ◌+◌}
use mathlib.Core.Path.{◌≡◌, sym, ap, ap₂, ◌∙◌}
use mathlib.Core.List.{List}
use lib.ListN.{set, replicate}
use Rattle.bounded.specs.BelowLaws.{sum_zero, sum_more}
use Rattle.bounded.specs.Entries.{stored, stored_none, stored_more}
use Rattle.bounded.specs.Tabulate.{tabulated_stored}
use Rattle.follow.specs.Follow.{links_followed}
use Rattle.links.specs.Committed.{walk_in, links_in}
use Rattle.links.specs.Shown.{slots_shown, walk_shown, committed_shown}
use Rattle.links.specs.Tables.{links_most_below, committed_beyond}
use Rattle.links.proofs.committed.PageChains.committed_versions.Goals as goal

pub loop-page-init : goal.loop-page-init
loop-page-init c = (sym (sum_zero _), stored_none _ (replicate 256 0))

pub overflow_add-links : goal.overflow_add-links
overflow_add-links c = let l = c.loop-page in
    let t = c.args.self.now.survey.table in
    let n = links_most_below t.layout t.sizes.pages t.sizes.slots (slots_shown t) t.pages_few (l.page + 1) in
    let s = sum_more l.page (λ p. (walk_shown t p).links) in
    let w = c.commit_page-links.ensures.value in
    let i = l.invariant.0 in
    let h = c.loop-page-test.true in
    let m = t.pages_few in
    omega arith

pub loop-page-preserved : goal.loop-page-preserved
loop-page-preserved c = let l = c.loop-page in
    let t = c.args.self.now.survey.table in
    let f = committed_shown t in (
      ap₂ ◌+◌ l.invariant.0 c.commit_page-links.ensures.value ∙ sym (sum_more l.page (λ p. (walk_shown t p).links)),
      c.commit_page-links.ensures.committed_after
          ∙ ap (λ (x : List ℕ). set x l.page (f l.page)) l.invariant.1
          ∙ stored_more f (replicate 256 0) l.page,
    )

pub returns : goal.returns
unfolding links_in links_followed walk_in
returns c = let l = c.loop-page in
    let t = c.args.self.now.survey.table in
    let f = committed_shown t in
    let e : l.page ≡ t.sizes.pages = omega arith in record { value = rw e at l.invariant.0; committed_after = l.invariant.1 ∙ ap (λ (n : ℕ). stored f n (replicate 256 0)) e ∙ tabulated_stored 256 f 0 t.sizes.pages t.pages_few (committed_beyond t) }

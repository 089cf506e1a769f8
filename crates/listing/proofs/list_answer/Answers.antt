use native.Mathlib.Omega.{arith}
use mathlib.Core.Path.{◌≡◌, refl, sym}
use Rattle.std.proofs.lemmas.Result.{err_from_is_err_and}
use Rattle.outcome.specs.Result.{number_positive, refuses, passes}
use Rattle.volume.specs.Held.{passed}
use Rattle.listing.specs.Listing.{list_answer}
use Rattle.listing.specs.ListingLaws.{none_refused, none_more, first_found, page_answered}
use Rattle.listing.proofs.list_answer.Goals as goal

pub loop-page-init : goal.loop-page-init
loop-page-init c = none_refused _

pub returns-in_err-first : goal.returns-in_err-first
unfolding list_answer
returns-in_err-first c = let p = err_from_is_err_and c.from_residual.result c.from_residual.ensures.1 in
    rw (p.1, p.2)
    (first_found _ _ c.loop-page.page _ c.loop-page.invariant
    (page_answered _ _ _ c.loop-page.page _ _ (rw c.new-volume.ensures at c.in_err-first.ensures) (refuses _ _ refl))
    (number_positive _) c.loop-page-test.true)

pub read_own-requires-clause-spans_in : goal.read_own-requires-clause-spans_in
read_own-requires-clause-spans_in c =
    (passed _ _ _ (sym (rw c.new-volume.ensures at c.in_ok-first.ensures))).spans

pub returns-in_err-read_own : goal.returns-in_err-read_own
unfolding list_answer
returns-in_err-read_own c = let p = err_from_is_err_and c.from_residual-in_err-read_own.result c.from_residual-in_err-read_own.ensures.1 in
    rw (p.1, p.2)
    (first_found _ _ c.loop-page.page _ c.loop-page.invariant
    (page_answered _ _ _ c.loop-page.page _ _ (rw c.new-volume.ensures at c.in_ok-first.ensures) (passes _ refl c.in_err-read_own.ensures))
    (number_positive _) c.loop-page-test.true)

pub loop-page-preserved : goal.loop-page-preserved
loop-page-preserved c =
    none_more _ _ _ c.loop-page.invariant
    (page_answered _ _ _ c.loop-page.page _ _ (rw c.new-volume.ensures at c.in_ok-first.ensures) (passes _ refl c.in_ok-read_own.ensures))
    refl

pub returns : goal.returns
unfolding list_answer
returns c = let l = c.loop-page in
    let e : l.page ≡ c.args.sizes.pages = omega arith in
    sym (rw e at l.invariant)

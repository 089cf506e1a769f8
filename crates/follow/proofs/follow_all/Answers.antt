use Rattle.std.proofs.Common.{arith, ◌≡◌, refl}
use Rattle.bounded.specs.Choice.{on_lt}
use Rattle.outcome.specs.Result.{given_back}
use Rattle.follow.proofs.WalksLaws.{nothing_known, all_followed, none_astray, some_astray}
use Rattle.follow.proofs.follow_all.Goals as goal

pub loop-page-init : goal.loop-page-init
loop-page-init c = (nothing_known 256 refl c.requires.pages_bound, λ p h. absurd (omega arith))

pub returns-in_err-follow_page-clause-astray : goal.returns-in_err-follow_page-clause-astray
returns-in_err-follow_page-clause-astray c = let g = c.in_err-follow_page.ensures.astray in
    rw (given_back c.from_residual.result c.from_residual.ensures.1, g.0, some_astray _ _ _ c.loop-page-test.true g.1)

pub loop-page-preserved : goal.loop-page-preserved
loop-page-preserved c = let l = c.loop-page in
    let g = c.in_ok-follow_page.ensures.given in
    (g.known, λ p h. on_lt p l.page (λ b. g.keeps p (l.invariant.1 p b)) (λ b. let e : p ≡ l.page = omega arith in rw e g.has))

pub returns : goal.returns
returns c = let l = c.loop-page in
    let all = all_followed c.requires.stays_inside l.invariant.0 (λ p h. l.invariant.1 p (omega arith)) in
    record { astray = rw (none_astray all); followed = all }

use native.Mathlib.Omega.{arith}
use mathlib.Core.Path.{refl, sym, ◌∙◌, subst}
use Rattle.recorded.specs.Held.{desk_of}
use Rattle.recorded.specs.HeldLaws.{same_stays, same_again}
use Rattle.cuts.specs.Lines.{end_within}
use Rattle.cuts.specs.Ran.{AtMost, most_cuts}
use Rattle.cuts.specs.RunLaws.{at_most, from_here, here_ends, here_many, here_refused, here_counted}
use Rattle.cuts.proofs.run.run.Goals as goal

pub loop-at-init : goal.loop-at-init
loop-at-init c = (c.requires, (omega arith, omega arith), omega arith, (refl, refl, same_stays c.args.desk.now), (λ held. held), refl)

pub returns-then-lines_done-ge256 : goal.returns-then-lines_done-ge256
unfolding from_here AtMost
returns-then-lines_done-ge256 c = let a = c.args in
    let d = a.desk.now in
    let l = c.loop-at in
    record { finds = sym (here_many d.sizes d.trial a.text.now l.tally (desk_of l.desk) l.lines_done l.at c.loop-at-test.true refl refl c.if-lines_done-ge256.true) ∙ l.invariant.5; few = tt; same_sizes = l.invariant.3.0; same_trial = l.invariant.3.1; same_buffers = l.invariant.3.2; bytes = l.invariant.4 }

pub slice_bounds-turn-count : goal.slice_bounds-turn-count
slice_bounds-turn-count c = omega (arith, c.line_end-end.ensures)

pub slice_bounds-turn-start : goal.slice_bounds-turn-start
slice_bounds-turn-start c = omega (arith, c.line_end-end.ensures)

pub slice_bounds-turn-end : goal.slice_bounds-turn-end
slice_bounds-turn-end c = (end_within c.args.text.now _ _ _ c.line_end-end.ensures refl c.loop-at.invariant.0).1

pub turn-requires : goal.turn-requires
turn-requires c = let l = c.loop-at in
    let h = c.if-lines_done-ge256.false in
    omega (arith, l.invariant.2)

pub returns-in_err-tally : goal.returns-in_err-tally
unfolding from_here AtMost
returns-in_err-tally c = let a = c.args in
    let d = a.desk.now in
    let l = c.loop-at in
    let t = c.turn in
    record { finds = c.from_residual.ensures ∙ sym (here_refused d.sizes d.trial a.text.now l.tally (desk_of l.desk) l.lines_done l.at c.loop-at-test.true c.line_end-end.ensures refl c.if-lines_done-ge256.false t.result (rw (l.invariant.3.0, l.invariant.3.1) at t.ensures.counts) c.in_err-tally.was) ∙ l.invariant.5; few = subst (AtMost most_cuts) (sym c.from_residual.ensures) tt; same_sizes = t.ensures.same_sizes ∙ l.invariant.3.0; same_trial = t.ensures.same_trial ∙ l.invariant.3.1; same_buffers = same_again l.invariant.3.2 t.ensures.same_buffers; bytes = λ held. t.ensures.bytes (l.invariant.4 held) }

pub next_line-at-requires : goal.next_line-at-requires
next_line-at-requires c = (end_within c.args.text.now _ _ _ c.line_end-end.ensures refl c.loop-at.invariant.0).1

pub loop-at-smaller : goal.loop-at-smaller
loop-at-smaller c = let e = c.line_end-end.ensures in
    omega (arith, c.next_line-at.ensures, c.loop-at-test.true)

pub loop-at-preserved : goal.loop-at-preserved
loop-at-preserved c = let a = c.args in
    let d = a.desk.now in
    let l = c.loop-at in
    let t = c.turn in
    let is = c.in_ok-tally.was in
    let few = c.if-lines_done-ge256.false in
    let most = at_most _ t.result _ t.ensures.few is in (
      omega (arith, c.next_line-at.ensures),
      (omega arith, omega arith),
      omega (arith, most, l.invariant.2),
      (t.ensures.same_sizes ∙ l.invariant.3.0, t.ensures.same_trial ∙ l.invariant.3.1, same_again l.invariant.3.2 t.ensures.same_buffers),
      (λ held. t.ensures.bytes (l.invariant.4 held)),
      sym (here_counted d.sizes d.trial a.text.now l.tally (desk_of l.desk) l.lines_done l.at c.loop-at-test.true c.line_end-end.ensures c.next_line-at.ensures few t.result (rw (l.invariant.3.0, l.invariant.3.1) at t.ensures.counts) _ is _ (rw (l.invariant.3.0, l.invariant.3.1) at t.ensures.leaves)) ∙ l.invariant.5,
    )

pub returns-clause-finds : goal.returns-clause-finds
unfolding from_here
returns-clause-finds c = let a = c.args in
    let d = a.desk.now in
    let l = c.loop-at in
    sym (here_ends d.sizes d.trial a.text.now l.tally (desk_of l.desk) l.lines_done l.at c.loop-at-test.false) ∙ l.invariant.5

pub returns-clause-few : goal.returns-clause-few
unfolding AtMost
returns-clause-few c = let l = c.loop-at in omega (arith, l.invariant.2, l.invariant.1)

pub returns-clause-bytes : goal.returns-clause-bytes
returns-clause-bytes c = let l = c.loop-at in l.invariant.4

pub returns-clause-same_sizes : goal.returns-clause-same_sizes
returns-clause-same_sizes c = let l = c.loop-at in l.invariant.3.0

pub returns-clause-same_trial : goal.returns-clause-same_trial
returns-clause-same_trial c = let l = c.loop-at in l.invariant.3.1

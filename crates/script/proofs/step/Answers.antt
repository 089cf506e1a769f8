use native.Mathlib.Omega.{arith}
use mathlib.Core.Path.{refl}
use borrow.Rule.Slice.PartMut.{same_len_mid}
use Rattle.bounded.specs.Limits.{two_widths}
use Rattle.sizes.proofs.SizesLaws.{words_product}
use Rattle.line.specs.Line.{said, said_of}
use Rattle.script.specs.Held.{memory_of}
use Rattle.script.specs.StepLaws.{went_in_front, went_over, went_malformed, went_line}
use Rattle.script.proofs.step.Goals as goal

pub returns-then-run : goal.returns-then-run
returns-then-run c = let a = c.args in
    let w = went_over two_widths a.run (memory_of a.memory.now) a.out.now (said_of a.line a.list.now) c.if-run.true in
    record { stands = w.0; prints = w.1; same_buffers = record { same_words = refl; same_contents = refl; same_state = refl; words_length = refl; contents_length = refl; state_length = refl } }

pub returns-in_default : goal.returns-in_default
returns-in_default c = let a = c.args in
    let m = memory_of a.memory.now in
    let r = c.refuse.ensures in
    let w = went_malformed two_widths a.run m a.out.now (said_of a.line a.list.now) _ _ c.if-run.false (c.in_default.ensures a.list.now) (r.stands m, r.prints m) in
    record { stands = w.0; prints = w.1; same_buffers = record { same_words = refl; same_contents = refl; same_state = refl; words_length = refl; contents_length = refl; state_length = refl } }

pub overflow_mul-sizes-2 : goal.overflow_mul-sizes-2
overflow_mul-sizes-2 c = let sizes = c.sizes_for-sizes.result in
    omega (arith, words_product sizes.width sizes.slots (omega arith) (omega arith))

pub returns : goal.returns
returns c = let a = c.args in
    let m = memory_of a.memory.now in
    let says = c.in-Some.says in
    let sizes = c.sizes_for-sizes in
    let v = c.volume_step.ensures in
    let w = went_line two_widths a.run m a.out.now (said_of a.line a.list.now) _ _ _ sizes.result (said says a.list.now) c.if-run.false (c.in-Some.ensures a.list.now) (sizes.ensures m a.list.now)
    (went_in_front a.run _ m a.out.now _ two_widths sizes.result (said says a.list.now) _ _ _ _ _ _ c.min-w.ensures c.min-b.ensures c.min-s.ensures (v.stands, v.prints)) in
    record { stands = w.0; prints = w.1; same_buffers = record { same_words = refl; same_contents = refl; same_state = refl; words_length = same_len_mid 0 _ _ _ c.volume_step.auto.words; contents_length = same_len_mid 0 _ _ _ c.volume_step.auto.contents; state_length = same_len_mid 0 _ _ _ c.volume_step.auto.state } }

use Prim.Native.Nat.{ℕ, ◌+◌}
use native.Mathlib.Omega.{arith}
use mathlib.Core.Path.{ap, ◌∙◌}
use mathlib.Core.List.{List}
use lib.ListN.{set}
use Rattle.bounded.specs.Entries.{stored_none, stored_more}
use Rattle.fleet.specs.Input.{word_at}
use Rattle.van.specs.Reading.{all_stored}
use Rattle.van.proofs.input.read_words.Goals as goal

pub loop-i-init : goal.loop-i-init
loop-i-init c = stored_none _ c.args.words.now

pub loop-i-preserved : goal.loop-i-preserved
loop-i-preserved c = let l = c.loop-i in
    let a = c.args in
    ap (set l.words l.i) c.word_at.ensures
    ∙ ap (λ (x : List ℕ). set x l.i (word_at a.input.now (3 + l.i))) l.invariant
    ∙ stored_more (λ (j : ℕ). word_at a.input.now (3 + j)) a.words.now l.i

pub returns : goal.returns
returns c = let l = c.loop-i in
    let a = c.args in
    l.invariant ∙ all_stored (λ (j : ℕ). word_at a.input.now (3 + j)) a.words.now l.i (omega arith)

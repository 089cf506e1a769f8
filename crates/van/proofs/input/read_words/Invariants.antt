-- The invariant: the first i words are stored.
use Prim.Native.Nat.{◌+◌}
use mathlib.Core.Path.{◌≡◌}
use Rattle.bounded.specs.Entries.{stored}
use Rattle.fleet.specs.Input.{word_at}
use Rattle.van.proofs.input.read_words.Given as goal

abbrev pub invariant-loop-i : goal.invariant-loop-i
invariant-loop-i l = l.words ≡ stored (λ j. word_at l.input (3 + j)) l.i l.initial.words

-- The invariant: those of the slots below k are noted.
use Rattle.std.proofs.Common.{◌≡◌, Bool, false, ℕ, ◌<◌, ◌≤◌, length}
use Rattle.bounded.specs.Below.{list_below}
use Rattle.noted.specs.Noted.{noted}
use Rattle.noted.proofs.Slots.note_passing.Given as goal

abbrev pub invariant-loop-k : goal.invariant-loop-k
invariant-loop-k g l =
    (length (noted l.self) ≤ l.k)
    × ((f : ℕ → Bool) → ((k : ℕ) → k < l.from → f k ≡ false) → ((k : ℕ) (b : Bool) → l.from ≤ k → k < l.to → goal.F-post g l.passes k b → b ≡ f k) → noted l.self ≡ list_below l.k f)

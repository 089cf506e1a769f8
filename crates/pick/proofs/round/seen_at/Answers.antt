-- Up to the last block the numbers rise, and block 0 follows on the last.
use Prim.Native.Nat.{ℕ, ◌+◌, ◌-◌, ◌%◌}
use native.Mathlib.Omega.{arith}
use mathlib.Core.Path.{◌≡◌, ap, ◌∙◌}
use lib.ListN.{length}
use borrow.Author.Tests.{lt-ltb, le-ltb}
use Rattle.std.proofs.Math.Nat.{mod-eq_of_lt, add-mod_right}
use Rattle.bounded.specs.Choice.{on_lt}
use Rattle.upkeep.specs.Pick.{seen_at}
use Rattle.pick.proofs.round.seen_at.Goals as goal

pub returns : goal.returns
unfolding seen_at
returns c = let a = c.args in
    on_lt (a.block + a.i) (length a.starts.now)
    (λ h. rw (lt-ltb _ _ h) (mod-eq_of_lt h))
    (λ h. let back : a.block + a.i ≡ (a.block + a.i - length a.starts.now) + length a.starts.now = omega arith in
    rw (le-ltb _ _ h) (ap (λ (m : ℕ). m % length a.starts.now) back ∙ add-mod_right _ (length a.starts.now) ∙ mod-eq_of_lt (omega arith)))

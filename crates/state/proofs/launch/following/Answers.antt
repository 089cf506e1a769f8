-- The next page where there is one, else the first.
use native.Mathlib.Omega.{arith}
use Prim.Native.Nat.{◌+◌}
use mathlib.Core.Path.{ap, ◌∙◌}
use lib.ListN.{length, get_or, get_or-eq_default}
use borrow.Author.Tests.{lt-ltb, le-ltb}
use Rattle.std.proofs.lemmas.Grind.{get_or_default_zero}
use Rattle.std.specs.Option.{unwrap_or}
use Rattle.bounded.specs.Choice.{on_lt}
use Rattle.state.specs.Change.{following}
use Rattle.state.proofs.launch.following.Goals as goal

pub returns : goal.returns
unfolding following
returns c = let list = c.args.pages.now in
    let i = c.args.i in
    let read = c.unwrap_or.ensures ∙ ap (λ o. unwrap_or o (get_or list 0 0)) c.copied.ensures ∙ c.get.ensures.lookup.4 (omega arith) (get_or list 0 0) in
    read ∙ on_lt (i + 1) (length list) (λ h. rw (lt-ltb (i + 1) (length list) h) (get_or_default_zero list (i + 1) _ h)) (λ h. rw (le-ltb (i + 1) (length list) h) (get_or-eq_default list _ h))

-- Each page that the walk asks for is listed, so it is one of the state's; what it finds is what the rules say.
use native.Mathlib.Omega.{arith}
use borrow.Author.Tests.{tests}
use mathlib.Core.Path.{◌∙◌}
use Prim.Native.Nat.{◌+◌, ◌*◌, ◌≤◌}
use lib.ListN.{length}
use Rattle.std.proofs.Common.{rules, of_calls}
use Rattle.std.proofs.lemmas.Iterator.{YieldsList-from_slice, YieldsList-from_map}
use Rattle.std.proofs.lemmas.Iterator.Adapters.{serves_from_places}
use Rattle.std.proofs.lemmas.Iterator.Search.{any_from_yields_List}
use Rattle.std.proofs.lemmas.List.{get_or_default}
use Rattle.state.specs.State.{state_at}
use Rattle.state.specs.Walk.{pages_in}
use Rattle.flight.specs.Some.{any_page}
use Rattle.flight.proofs.some_page.Goals as goal

pub any-requires-clause-can : goal.any-requires-clause-can
unfolding pages_in
any-requires-clause-can g c = (
  tt,
  serves_from_places (YieldsList-from_slice c.args.list.now cc) (λ x q k. search (rules, tests))
      (λ x k h e.
      let b = c.requires.listed.in_range_lem k h in
      let d = get_or_default c.args.list.now k x.now 0 h in
      let inside : 4 * x.now + 4 ≤ length c.args.state.now = omega arith in
      search (rules, inside)),
)

pub returns : goal.returns
returns g c = λ f says. any_from_yields_List f _ _ _ c.any.ensures.ran
    (YieldsList-from_map _ (state_at c.args.state.now) (YieldsList-from_slice c.args.list.now cc) c.map.ensures.closure (λ x r q k. search (rules, tests)))
    (λ x b q k. (g.met.F.Fn.1.step_stays c.args.passes (x, tt) b q (record { met = k.met }), says x b (search of_calls)))
    ∙ any_page c.args.list.now (state_at c.args.state.now) f

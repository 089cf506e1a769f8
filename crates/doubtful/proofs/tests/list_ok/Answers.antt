-- The empty list passes; of another every entry is in range and new, and the walk over it asks each for a slot of the table.
use native.Mathlib.Omega.{arith}
use borrow.Author.Tests.{tests}
use mathlib.Core.Path.{◌∙◌}
use mathlib.Core.Bool.{not}
use Prim.Native.Nat.{ℕ, ◌+◌, ◌*◌, ◌≤◌}
use lib.ListN.{length}
use Rattle.std.proofs.Common.{rules}
use Rattle.std.proofs.lemmas.Iterator.{YieldsList-from_slice}
use Rattle.std.proofs.lemmas.Iterator.Adapters.{serves_from_places}
use Rattle.std.proofs.lemmas.Iterator.Search.{all_from_yields_List}
use Rattle.std.proofs.lemmas.Bool.Decides.{nat_tests}
use Rattle.std.proofs.lemmas.List.{get_or_default}
use Rattle.bounded.specs.Choice.{told}
use Rattle.sizes.specs.Lists.{list_facts}
use Rattle.record.specs.Slot.{slot_at, is_blank}
use Rattle.record.specs.SlotLaws.{some_held}
use Rattle.doubtful.specs.Tested.{list_none, list_fails, list_walked}
use Rattle.doubtful.proofs.tests.list_ok.Goals as goal

pub returns-then-is_empty : goal.returns-then-is_empty
returns-then-is_empty c = list_none _ _ _ (grind (arith, nat_tests))

pub all-requires-clause-callable : goal.all-requires-clause-callable
all-requires-clause-callable c = serves_from_places (YieldsList-from_slice c.args.list.now cc) (λ x q k. search (rules, tests))
    (λ x k h e.
    let b = (list_facts _ _ (told c.list_ok.ensures c.if-list_ok.true)).in_range_lem k h in
    let d = get_or_default c.args.list.now k x.now 0 h in
    let p = c.requires in
    let inside : 5 * x.now + 5 ≤ length c.args.words.now = omega arith in
    search (rules, inside))

pub returns-then-list_ok : goal.returns-then-list_ok
returns-then-list_ok c = all_from_yields_List (λ (k : ℕ). not (is_blank (slot_at c.args.words.now k))) _ _ _ c.all.ensures.ran (YieldsList-from_slice c.args.list.now cc) (λ x b q k. search (rules, some_held))
    ∙ list_walked _ _ _ (grind (arith, nat_tests)) (told c.list_ok.ensures c.if-list_ok.true)

pub returns-else-list_ok : goal.returns-else-list_ok
returns-else-list_ok c = c.if-list_ok.false ∙ list_fails _ _ _ (grind (arith, nat_tests)) (told c.list_ok.ensures c.if-list_ok.false)

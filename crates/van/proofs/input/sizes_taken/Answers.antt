-- Each return is what the tests on its way give.
use mathlib.Core.Path.{refl, ◌∙◌}
use borrow.Author.Tests.{eq-eqb, ne_eqb}
use Rattle.bounded.specs.Choice.{told}
use Rattle.fleet.specs.Input.{sizes_taken}
use Rattle.van.proofs.input.sizes_taken.Goals as goal
use Rattle.van.proofs.input.sizes_taken.Goals.{then-sizes-eq64, else-sizes-eq64}

pub returns-else-are_ok : goal.returns-else-are_ok
unfolding sizes_taken
returns-else-are_ok c = c.if-are_ok.false ∙ rw (told c.are_ok.ensures c.if-are_ok.false)

pub returns-after-sizes-eq64 : goal.returns-after-sizes-eq64
unfolding sizes_taken
returns-after-sizes-eq64 c =
    rw (told c.are_ok.ensures c.if-are_ok.true)
    (elim c.if-sizes-eq64.branch [ then-sizes-eq64 w ↦ rw (w.result-is, eq-eqb _ _ w.if-sizes-eq64.true) refl | else-sizes-eq64 w ↦ rw (w.result-is, ne_eqb _ _ w.if-sizes-eq64.false) refl ])

-- Each return is what the tests on its way give.
use mathlib.Core.Path.{sym, ◌∙◌}
use Rattle.bounded.specs.Limits.{two_widths}
use Rattle.bounded.specs.Choice.{told}
use Rattle.fleet.proofs.InputLaws.{broken_early}
use Rattle.van.specs.Reading.{wrong_sizes_lem, right_sizes}
use Rattle.van.proofs.input.is_whole.Goals as goal

pub returns-then-input-lt12 : goal.returns-then-input-lt12
returns-then-input-lt12 c = sym (broken_early two_widths c.args.input.now c.if-input-lt12.true)

pub returns-else-sizes_taken : goal.returns-else-sizes_taken
returns-else-sizes_taken c = c.if-sizes_taken.false ∙ wrong_sizes_lem c.args.input.now _ c.sizes_at-sizes.ensures c.if-input-lt12.false (told c.sizes_taken.ensures c.if-sizes_taken.false)

pub returns-then-sizes_taken : goal.returns-then-sizes_taken
returns-then-sizes_taken c = right_sizes c.args.input.now _ c.sizes_at-sizes.ensures c.if-input-lt12.false (told c.sizes_taken.ensures c.if-sizes_taken.true) _ c.volume_length.ensures

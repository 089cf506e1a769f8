-- The buffer has room for the table.
use native.Mathlib.Omega.{arith}
use mathlib.Core.Path.{ap}
use Rattle.sizes.specs.declared.Sizes.{Sizes}
use Rattle.bounded.specs.Limits.{two_widths}
use Rattle.fleet.proofs.InputLaws.{whole_facts}
use Rattle.van.proofs.input.entry_at.Goals as goal

pub sizes_at-sizes-requires : goal.sizes_at-sizes-requires
sizes_at-sizes-requires c = (whole_facts two_widths c.args.input.now c.requires).header

pub slice_bounds-words-end : goal.slice_bounds-words-end
slice_bounds-words-end c = omega (arith, ap (λ (z : Sizes). z.slots) c.sizes_at-sizes.ensures, (whole_facts two_widths c.args.input.now c.requires).words_most)

-- Wrong sizes announce nothing, right ones the whole volume.
use native.Mathlib.Omega.{arith}
use Rattle.bounded.specs.Choice.{told}
use Rattle.van.specs.Reading.{announces_none, announces_all}
use Rattle.van.proofs.input.announced.Goals as goal

pub returns-then-not-sizes_taken : goal.returns-then-not-sizes_taken
returns-then-not-sizes_taken c = record { finds = announces_none c.args.input.now _ c.sizes_at-sizes.ensures (told c.sizes_taken.ensures c.if-not-sizes_taken.true); bounded = omega arith }

pub returns : goal.returns
returns c = let w = announces_all c.args.input.now _ c.sizes_at-sizes.ensures (told c.sizes_taken.ensures c.if-not-sizes_taken.false) _ c.volume_length.ensures in
    record { finds = w.0; bounded = w.1 }

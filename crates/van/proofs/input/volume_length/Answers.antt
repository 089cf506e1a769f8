-- A volume has at most 53,260 bytes, so no sum or product wraps.
use native.Mathlib.Omega.{arith}
use mathlib.Core.Path.{refl}
use Rattle.fleet.specs.Input.{table_end, volume_length}
use Rattle.fleet.proofs.InputLaws.{volume_most}
use Rattle.van.proofs.input.volume_length.Goals as goal

pub overflow_add-result-2 : goal.overflow_add-result-2
unfolding volume_length table_end
overflow_add-result-2 c = omega (arith, volume_most c.args.sizes c.requires)

pub returns : goal.returns
unfolding volume_length table_end
returns c = refl

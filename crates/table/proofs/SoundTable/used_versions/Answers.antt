use mathlib.Core.Path.{refl}
use Rattle.bounded.specs.Below.{max_below}
use Rattle.bounded.specs.Tabulate.{tabulate_same}
use Rattle.table.specs.Table.{used_of}
use Rattle.table.proofs.SoundTable.used_versions.Goals as goal

pub loop-k-init : goal.loop-k-init
unfolding used_of max_below
loop-k-init c = tabulate_same 256 0 _ (λ i h. refl)

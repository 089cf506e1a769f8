use Prim.Native.Nat.{ℕ}
use mathlib.Core.Path.{refl, sym}
use mathlib.Core.List.{List}
use Rattle.line.specs.Line.{said, on_format}
use Rattle.rules.specs.Volume.{Volume}
use Rattle.report.specs.Report.{standing}
use Rattle.script.specs.Script.{sizes_for}
use Rattle.dispatch.specs.DispatchLaws.{other_line, other_key}
use Rattle.script.proofs.sizes_for.Goals as goal

pub returns-in-Format : goal.returns-in-Format
unfolding said on_format sizes_for
returns-in-Format c = λ (memory : Volume) (list : List ℕ). rw c.in-Format.is refl

pub returns-in_default : goal.returns-in_default
unfolding standing sizes_for
returns-in_default c = λ (memory : Volume) (list : List ℕ). sym (other_line _ list _ _ (other_key _ c.in_default.not-Format))

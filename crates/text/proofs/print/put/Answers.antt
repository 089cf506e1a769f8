use mathlib.Core.List.{[], ◌∷◌}
use Rattle.text.specs.PrintLaws.{put_room, put_full}
use Rattle.text.proofs.print.put.Goals as goal

pub returns-then-at-out : goal.returns-then-at-out
returns-then-at-out c = let a = c.args in put_room a.out.now a.at a.byte c.if-at-out.true

pub returns-else-at-out : goal.returns-else-at-out
returns-else-at-out c = let a = c.args in put_full a.out.now a.at (a.byte ∷ []) c.if-at-out.false

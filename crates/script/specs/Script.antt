-- A script's run line by line: what each line prints and what it leaves, by the calls' outcome definitions.
use Rattle.std.specs.Prelude.{ℕ, Bool, true, false, cond, not, ◌&&◌, eqb}
use Rattle.bounded.specs.Limits.{Widths}
use Rattle.outcome.specs.Outcome.{Outcome}
use Rattle.sizes.specs.declared.Sizes.{Sizes}
use Rattle.line.specs.Line.{Said, on_format}
use Rattle.rules.specs.Volume.{Volume}
use Rattle.dispatch.specs.Dispatch.{line_outcome}
use Rattle.report.specs.Report.{Standing, Turn, with_memory, idle_turn, refused_turn, told}
use Rattle.script.specs.Memory.{in_use, volume_back}

-- what a line does where it may stand, on a volume of sizes z that is all of memory
unfoldable pub volume_turn : Widths → Sizes → Standing → Said → Turn
volume_turn widths z s says = tell (line_outcome widths z s.memory says)
  where
    tell : Outcome Volume → Turn
    tell o = told widths (with_memory s o.left) says o.answer o.second

-- the sizes of the volume that a line works on: a format's own, else the run's
unfoldable pub sizes_for : Standing → Said → Sizes
sizes_for s says = on_format says (λ z. z) s.sizes

-- what a line does on the volume of sizes z in front of memory, with what is behind that put back
unfoldable pub in_front : Widths → Sizes → Standing → Said → Turn
in_front widths z s says = put_back (volume_turn widths z (with_memory s (in_use z s.memory)) says)
  where
    put_back : Turn → Turn
    put_back t = record { prints = t.prints; leaves = with_memory t.leaves (volume_back z s.memory t.leaves.memory) }

-- what a line does where it may stand: it works on the volume of its sizes in front of memory, and what is behind that stays
unfoldable pub line_turn : Widths → Standing → Said → Turn
line_turn widths s says = in_front widths (sizes_for s says) s says

-- "a line other than format before a format has answered 0"
unfoldable pub is_format : Said → Bool
is_format says = on_format says (λ z. true) false

unfoldable pub is_early : ℕ → Said → Bool
is_early pages says = eqb pages 0 && not (is_format says)

-- What a line does: the bytes it prints and where it leaves the run. After a line that "prints answer=line and ends the run" no line does anything.
unfoldable pub turn : Widths → Standing → Said → Turn
turn widths s says = cond s.over (idle_turn s) (cond (is_early s.sizes.pages says) (refused_turn s) (line_turn widths s says))

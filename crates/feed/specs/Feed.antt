-- A script byte by byte: what a line's bytes do, and what the next byte does.
use Rattle.std.specs.Prelude.{ℕ, List, [], ◌∷◌, ◌++◌, cond, eqb, take}
use Rattle.bounded.specs.Limits.{Widths}
use Rattle.line.specs.Line.{max_entries, line_means}
use Rattle.report.specs.Report.{Standing, Turn, idle_turn}
use Rattle.script.specs.Script.{turn}

-- what a line of these bytes does: by `turn`, nothing once the run is over
unfoldable pub carried : Widths → Standing → List ℕ → Turn
carried widths s line = turn widths s (line_means max_entries line)

-- What a byte does: a turn, and the bytes that are then held of a line that has not ended.
pub record Fed : Type 0 where
  pub turned : Turn
  pub held : List ℕ

-- The next byte of a script, where these bytes are held of a line that has not ended and there is room for `room` of them: a line end
-- (byte 10) has the line carried out; any other byte is held, as far as there is room. 513 bytes of room hold every line of 512, and enough of a longer one
-- for it to be refused. After a line that "prints answer=line and ends the run" a byte does nothing, and what is held stays.
unfoldable pub fed : Widths → (room : ℕ) → Standing → (held : List ℕ) (byte : ℕ) → Fed
fed widths room s held byte =
    cond s.over
    (record { turned = idle_turn s; held = held })
    (cond (eqb byte 10)
    (record { turned = carried widths s held; held = [] })
    (record { turned = idle_turn s; held = take room (held ++ (byte ∷ [])) }))

-- What a script comes to, as the program has it.
use Rattle.std.specs.Prelude.{ℕ, ◌+◌, ◌≤◌, List, map, Bool, cond}
use Rattle.std.specs.Prelude.{Option, None, Some}
use Rattle.bounded.specs.Limits.{Widths}
use Rattle.sizes.specs.declared.Sizes.{Sizes}
use Rattle.text.specs.Lines.{lines_of}
use Rattle.line.specs.Line.{Said, max_entries, line_means}
use Rattle.cutpoint.specs.declared.Tally.{Tally}
use Rattle.recorded.specs.Desk.{Desk, desk_after, desk_cuts}
use Rattle.cuts.specs.Run.{is_step}

-- nothing counted
abbrev pub none_yet : Tally
none_yet = record { same = 0; differ = 0 }

-- at most n cuts are counted
unfoldable pub AtMost : ℕ → Option Tally → Type 0
AtMost n None = Unit {0}
AtMost n (Some tally) = tally.same + tally.differ ≤ n

-- 256 lines with 64 cuts each
abbrev pub most_cuts : ℕ
most_cuts = 16384

-- what a text's lines say
unfoldable pub said_in : List ℕ → List Said
said_in text = map (line_means max_entries) (lines_of text)

module _ (widths : Widths) (sizes : Sizes) (trial : Bool) where
  -- one line: what it leaves, and what is found at its cuts, none where it may not stand
  unfoldable pub turn_desk : Desk → Said → Desk
  turn_desk d says = cond (is_step says) (desk_after widths sizes trial d says) d

  unfoldable pub turn_cuts : Desk → Said → Option (List Bool)
  turn_cuts d says = cond (is_step says) (Some (desk_cuts widths sizes trial d says)) None

-- What is shown of the line that is printed, stated.
use Rattle.std.specs.Prelude.{ℕ, suc, ◌+◌, ◌<◌, ◌≡◌, List, [], ◌∷◌, map, Bool, false, length, take, drop}
use Rattle.std.specs.Prelude.{None, Some}
use Rattle.bounded.specs.Limits.{Widths}
use Rattle.sizes.specs.declared.Sizes.{Sizes}
use Rattle.text.specs.Scan.{bytes}
use Rattle.text.specs.Print.{shown, added}
use Rattle.text.specs.Lines.{lines_of}
use Rattle.line.specs.Line.{Said, max_entries, line_means}
use Rattle.rules.specs.Volume.{Volume}
use Rattle.rules.specs.Format.{formatted}
use Rattle.dispatch.specs.Dispatch.{line_outcome}
use Rattle.atomicity.specs.Run.{started, after}
use Rattle.everywhere.specs.Cuts.{event_of, erasing}
use Rattle.everywhere.specs.Shown.{slots_from}
use Rattle.cuts.specs.Recording.{Script, zeroed, recording, counts_text, report_text}

-- "the number of slots that accepted writes and erases store or blank", in a script
unfoldable pub slots_of_script : (trial : Bool) → Widths → Script → ℕ
slots_of_script trial widths s = slots_from (erasing trial) widths s.sizes (started (erasing trial) widths s.sizes (zeroed s.sizes)) s.steps

-- Of every text:
pub record ReportShown (widths : Widths) : Type 0 where
  -- one that is no script prints answer=line
  pub refused : (trial : Bool) (text : List ℕ) → recording widths text ≡ None → report_text widths trial text ≡ bytes "answer=line\n"
  -- "cuts is the number of slots that accepted writes and erases store or blank", and of these so many are the same and so many differ
  pub counted :
      (trial : Bool) (text : List ℕ) (s : Script) → recording widths text ≡ Some s
      → (same : ℕ) × (differ : ℕ) × (same + differ ≡ slots_of_script trial widths s) × (report_text widths trial text ≡ counts_text (slots_of_script trial widths s) same differ)
  -- "for our own calls differ is 0 and same equals cuts"
  pub own : (text : List ℕ) (s : Script) → recording widths text ≡ Some s → report_text widths false text ≡ counts_text (slots_of_script false widths s) (slots_of_script false widths s) 0

-- the longest script has 256 lines of 512 bytes, each with its line end
abbrev pub longest_script : ℕ
longest_script = 131328

-- So the first 131,329 bytes of a text decide what is printed.
abbrev pub EnoughRead : Widths → Type 0
EnoughRead widths = (trial : Bool) (text : List ℕ) → report_text widths trial (take (suc longest_script) text) ≡ report_text widths trial text

-- the longest line that is printed
abbrev pub longest_report : ℕ
longest_report = 50

-- What is printed has fewer bytes than any longer buffer: there nothing is left out, and the place behind it is its length.
abbrev pub RoomEnough : Widths → Type 0
RoomEnough widths =
    (trial : Bool) (text out left : List ℕ) (r : ℕ)
    → longest_report < length out
    → length left ≡ length out
    → shown left r ≡ added out 0 (report_text widths trial text)
    → (shown left r ≡ report_text widths trial text) × (r ≡ length (report_text widths trial text))

-- the volume that lines leave, one carried out behind the other by the script program
unfoldable pub lines_leave : Widths → Sizes → Volume → List Said → Volume
lines_leave widths sizes v [] = v
lines_leave widths sizes v (line ∷ lines) = lines_leave widths sizes (line_outcome widths sizes v line).left lines

-- A script's run is that of all its lines, in their order: behind the format line they leave the volume that they leave in the script program.
abbrev pub AllLinesRun : Widths → Type 0
AllLinesRun widths =
    (text : List ℕ) (s : Script) → recording widths text ≡ Some s
    → (after (erasing false) widths s.sizes (started (erasing false) widths s.sizes (zeroed s.sizes)) (map (event_of s.sizes) s.steps)).volume
    ≡ lines_leave widths s.sizes (formatted s.sizes) (drop 1 (map (line_means max_entries) (lines_of text)))

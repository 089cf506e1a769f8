-- What the program prints for a script: document 02, wish 12, "Cut it everywhere". A script is its bytes; its lines are those of the script program, and each says what it says there.
use Rattle.std.specs.Prelude.{ℕ, suc, ◌*◌, List, [], ◌∷◌, ◌++◌, map, Bool, cond, ◌&&◌, leb, eqb, length, replicate}
use Rattle.std.specs.Prelude.{Option, None, Some, option_map}
use Rattle.bounded.specs.Limits.{Widths}
use Rattle.sizes.specs.declared.Sizes.{Sizes}
use Rattle.text.specs.Scan.{bytes}
use Rattle.text.specs.Print.{decimal}
use Rattle.text.specs.Lines.{lines_of}
use Rattle.line.specs.Line.{Said, on_format, max_entries, line_means}
use Rattle.rules.specs.Volume.{Volume, volume}
use Rattle.rules.specs.Format.{format_outcome}
use Rattle.atomicity.specs.Call.{Call}
use Rattle.everywhere.specs.Cuts.{Recorded, cuts_of, sames, differs, erasing}

-- ---- what the lines of a text record

-- a line behind the format line: a call, a cut between two calls, or nothing; none where it is "A malformed line" or "a second format line"
unfoldable pub step_by : Sizes → Said → Option (List Recorded)
step_by sizes (Said.Format own) = None
step_by sizes (Said.Launch pages) = Some (Recorded.Makes (Call.Launch pages) ∷ [])
step_by sizes (Said.Write page slot fill) = Some (Recorded.Makes (Call.Write page slot (replicate sizes.width fill)) ∷ [])
step_by sizes (Said.Withdraw page) = Some (Recorded.Makes (Call.Withdraw page) ∷ [])
step_by sizes (Said.Erase slots) = Some (Recorded.Makes (Call.Erase slots) ∷ [])
step_by sizes Said.Recover = Some (Recorded.Makes Call.Recover ∷ [])
step_by sizes Said.Cut = Some (Recorded.Cut ∷ [])
step_by sizes Said.Listing = Some []
step_by sizes Said.Malformed = None

-- both, one behind the other, where there are both
unfoldable pub joined : Option (List Recorded) → Option (List Recorded) → Option (List Recorded)
joined None steps = None
joined (Some step) steps = option_map (λ (l : List Recorded). step ++ l) steps

unfoldable pub steps_by : Sizes → List Said → Option (List Recorded)
steps_by sizes [] = Some []
steps_by sizes (line ∷ lines) = joined (step_by sizes line) (steps_by sizes lines)

-- "a recorded script, up to 256 lines, starting with its one format line"
pub record Script : Type 0 where
  pub sizes : Sizes
  pub steps : List Recorded

unfoldable pub script : Sizes → List Recorded → Script
script sizes steps = record { sizes = sizes; steps = steps }

-- the buffers that are formatted
unfoldable pub zeroed : Sizes → Volume
zeroed z = volume (replicate (5 * z.slots) 0) (replicate (z.width * z.slots) 0) (replicate (4 * z.pages) 0)

-- The script of these lines; none where "A malformed line, a missing or refused first format line, a second format line or a 257th line ends the run".
unfoldable pub script_of : Widths → List Said → Option Script
script_of widths [] = None
script_of widths (first ∷ rest) =
    on_format first
    (λ z. cond (eqb (format_outcome widths z (zeroed z)).answer 0 && leb (suc (length rest)) 256) (option_map (script z) (steps_by z rest)) None)
    None

-- what a text records
unfoldable pub recording : Widths → (text : List ℕ) → Option Script
recording widths text = script_of widths (map (line_means max_entries) (lines_of text))

-- ---- what is printed

-- "Print only one line, cuts= same= differ= each with its number"
unfoldable pub counts_text : (cuts same differ : ℕ) → List ℕ
counts_text cuts same differ =
    bytes "cuts=" ++ (decimal cuts ++ (bytes " same=" ++ (decimal same ++ (bytes " differ=" ++ (decimal differ ++ bytes "\n")))))

unfoldable pub cuts_text : List Bool → List ℕ
cuts_text cuts = counts_text (length cuts) (sames cuts) (differs cuts)

-- "and only answer=line is printed"
unfoldable pub report_of : Widths → (trial : Bool) → Option Script → List ℕ
report_of widths trial None = bytes "answer=line\n"
report_of widths trial (Some s) = cuts_text (cuts_of (erasing trial) widths s.sizes (zeroed s.sizes) s.steps)

-- What the program prints for a text, with our own erase or the trial one.
unfoldable pub report_text : Widths → (trial : Bool) → List ℕ → List ℕ
report_text widths trial text = report_of widths trial (recording widths text)

-- Scripts cut everywhere, computed from their bytes to what is printed.
use Rattle.std.specs.Prelude.{ℕ, zero, suc, ◌≡◌, refl, List, [], ◌++◌, Bool, true, false}
use Prim.Native.String.{String}
use Rattle.bounded.specs.Limits.{two_widths}
use Rattle.text.specs.Scan.{bytes}
use Rattle.text.specs.Print.{decimal_in, decimal}
use Rattle.text.specs.Lines.{onto, lines_of}
use Rattle.line.specs.Line.{on_format}
use Rattle.line.specs.Computing.{computing as line_computing}
use Rattle.everywhere.proofs.Cases.{cuts_computing}
use Rattle.cuts.specs.Recording.{step_by, joined, steps_by, script, zeroed, script_of, recording, counts_text, cuts_text, report_of, report_text}

-- "case 6's script, fills not 0"
unfoldable pub case6_text : List ℕ
case6_text =
    bytes "op=format pages=3 slots=7\nop=launch pages=0,1\nop=write page=0 slot=3 fill=1\nop=cut\nop=recover\nop=launch pages=1,2\n"
    ++ bytes "op=write page=1 slot=4 fill=2\nop=write page=2 slot=5 fill=3\nop=recover\nop=launch pages=1\nop=write page=1 slot=6 fill=4\nop=erase slots=4\n"

-- A name for "these definitions compute": a declaration that unfolds it unfolds them all.
unfoldable computing : Unit {0}
unfolding line_computing cuts_computing decimal_in decimal on_format onto lines_of step_by joined steps_by script zeroed script_of recording counts_text cuts_text report_of report_text
computing = tt

-- what is printed for a text, by our own calls and by the trial
unfoldable pub prints : (trial : Bool) → String → List ℕ
prints trial text = report_text two_widths trial (bytes text)

unfoldable pub refused : List ℕ
refused = bytes "answer=line\n"

-- n times a line behind a format line
unfoldable pub many_lines : ℕ → (line : List ℕ) → List ℕ
many_lines n line = bytes "op=format pages=1 slots=2" ++ lines n
  where
    lines : ℕ → List ℕ
    lines zero = []
    lines (suc n) = line ++ lines n

pub record TextsComputed : Type 0 where
  -- "A trial erase that never answers 12 must give differ above 0 on case 6's script, fills not 0"
  pub own : report_text two_widths false case6_text ≡ bytes "cuts=4 same=4 differ=0\n"
  pub trial : report_text two_widths true case6_text ≡ bytes "cuts=5 same=4 differ=1\n"
  -- "those of the last completed rings": also where the run itself recovered what was never completed
  pub recovered : report_text two_widths true (case6_text ++ bytes "op=recover\nop=launch pages=2\nop=write page=2 slot=4 fill=5\n") ≡ bytes "cuts=6 same=4 differ=2\n"
  -- at width 64, with a list and a withdrawn ring in it, a write that is refused, and a last line without its end
  pub wide : prints false "op=format pages=2 slots=4 width=64\nop=launch pages=0\nop=write page=0 slot=2 fill=9\nop=list\nop=launch pages=1\nop=withdraw page=1\nop=write page=1 slot=3 fill=9\nop=cut\nop=recover\nop=erase slots=0" ≡ bytes "cuts=2 same=2 differ=0\n"
  -- the trial takes a blank slot; behind a cut it refuses like every call; its writes are our own
  pub trial_blank : prints true "op=format pages=1 slots=2\nop=erase slots=1" ≡ bytes "cuts=1 same=1 differ=0\n"
  pub trial_lost : prints true "op=format pages=1 slots=2\nop=cut\nop=erase slots=0" ≡ bytes "cuts=0 same=0 differ=0\n"
  pub trial_written : prints true "op=format pages=2 slots=4\nop=launch pages=0,1\nop=write page=0 slot=2 fill=1\nop=write page=0 slot=3 fill=2" ≡ bytes "cuts=1 same=1 differ=0\n"
  -- "up to 256 lines": so many, the last of which stores a slot, and "a 257th line", though none does anything
  pub most_lines : report_text two_widths false (many_lines 252 (bytes "\nop=cut") ++ bytes "\nop=recover\nop=launch pages=0\nop=write page=0 slot=1 fill=1") ≡ bytes "cuts=1 same=1 differ=0\n"
  pub too_many_lines : report_text two_widths false (many_lines 256 (bytes "\nop=list")) ≡ refused
  -- "A malformed line, a missing or refused first format line, a second format line": an empty line is malformed
  pub malformed : prints false "op=format pages=1 slots=2\n\n" ≡ refused
  pub malformed_later : prints false "op=format pages=1 slots=2\nop=cut\nop=x" ≡ refused
  pub missing : prints false "" ≡ refused
  pub other_first : prints false "op=cut\nop=format pages=1 slots=2\n" ≡ refused
  pub refused_first : prints false "op=format pages=0 slots=4\n" ≡ refused
  pub second_format : prints false "op=format pages=1 slots=2\nop=format pages=1 slots=2\n" ≡ refused
  pub too_wide : prints false "op=format pages=2 slots=513 width=64\n" ≡ refused

pub texts_computed : TextsComputed
unfolding computing case6_text prints refused many_lines
texts_computed =
    record {
      own = refl;
      trial = refl;
      recovered = refl;
      wide = refl;
      trial_blank = refl;
      trial_lost = refl;
      trial_written = refl;
      most_lines = refl;
      too_many_lines = refl;
      malformed = refl;
      malformed_later = refl;
      missing = refl;
      other_first = refl;
      refused_first = refl;
      second_format = refl;
      too_wide = refl;
    }

-- Scripts, computed line by line: what is printed of document 01's sample, and of volumes at both widths, one after the other.
use Rattle.std.specs.Prelude.{ℕ, ◌≡◌, refl, List, [], ◌∷◌, ◌++◌, replicate}
use Prim.Native.String.{String}
use Rattle.bounded.specs.Limits.{two_widths}
use Rattle.text.specs.Scan.{bytes}
use Rattle.line.specs.Line.{line_means, on_format}
use Rattle.line.specs.Computing.{computing as line_computing}
use Rattle.rules.specs.Volume.{volume}
use Rattle.listing.specs.Computing.{computing as listing_computing}
use Rattle.dispatch.specs.Computing.{computing as dispatch_computing}
use Rattle.report.specs.Report.{Standing, standing, start_run, with_memory, printing, idle_turn, refused_turn, done_text, formatted, told}
use Rattle.script.specs.Memory.{in_use, volume_back}
use Rattle.script.specs.Script.{volume_turn, sizes_for, in_front, line_turn, is_format, is_early, turn}

-- what the lines print, one after the other, from where a run stands
unfoldable pub printed : Standing → List String → List ℕ
printed s [] = []
printed s (line ∷ lines) = let t = turn two_widths s (line_means 64 (bytes line)) in t.prints ++ printed t.leaves lines

-- the start of a run, with memory for 4 slots of 64 bytes and 2 pages
unfoldable pub started : Standing
started = standing start_run (volume (replicate 20 7) (replicate 256 7) (replicate 8 7))

-- A name for "these definitions compute": a declaration that unfolds it unfolds them all.
unfoldable computing : Unit {0}
unfolding line_computing listing_computing dispatch_computing standing with_memory printing idle_turn refused_turn done_text formatted told in_use volume_back volume_turn on_format sizes_for in_front line_turn is_format is_early turn printed started
computing = tt

-- document 01's sample
pub sample_printed :
    printed started
    ("op=format pages=2 slots=4"
    ∷ "op=launch pages=0,1"
    ∷ "op=write page=0 slot=2 fill=3"
    ∷ "op=cut"
    ∷ "op=recover"
    ∷ "op=launch pages=1"
    ∷ "op=write page=1 slot=3 fill=3"
    ∷ "op=list"
    ∷ [])
    ≡ bytes "answer=0\nanswer=0\nanswer=0 done=0\nanswer=0\nanswer=0\nanswer=0\nanswer=0 done=1\npage=0 version=0 slot=0 drawn=0 state=empty\npage=1 version=2 slot=3 drawn=64 state=set\nanswer=0\n"
unfolding computing
sample_printed = refl

-- Document 02, wish 10: at width 64 a fill of 3 draws 128 stops and one of 255 draws 512; a refused later format leaves volume, sizes and width as they
-- were; an accepted one without a width goes on at 32; and a line with more than 512 slots at 64 "prints answer=line" and ends the run.
pub wide_printed :
    printed started
    ("op=format pages=2 slots=4 width=64"
    ∷ "op=launch pages=0,1"
    ∷ "op=write page=0 slot=2 fill=3"
    ∷ "op=format pages=0 slots=4"
    ∷ "op=write page=1 slot=3 fill=255"
    ∷ "op=cut"
    ∷ "op=recover"
    ∷ "op=list"
    ∷ "op=format pages=2 slots=4"
    ∷ "op=launch pages=0"
    ∷ "op=write page=0 slot=3 fill=3"
    ∷ "op=format pages=5 slots=4 width=64"
    ∷ "op=list"
    ∷ "op=format pages=2 slots=513 width=64"
    ∷ "op=list"
    ∷ [])
    ≡ bytes "answer=0\nanswer=0\nanswer=0 done=0\nanswer=1\nanswer=0 done=1\nanswer=0\nanswer=0\npage=0 version=1 slot=2 drawn=128 state=set\npage=1 version=1 slot=3 drawn=512 state=set\nanswer=0\nanswer=0\nanswer=0\nanswer=0 done=1\nanswer=1\npage=0 version=1 slot=3 drawn=64 state=set\npage=1 version=0 slot=1 drawn=0 state=empty\nanswer=0\nanswer=line\n"
unfolding computing
wide_printed = refl

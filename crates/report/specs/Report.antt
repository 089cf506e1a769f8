-- Where a script's run stands, and what a line prints and leaves by its call's answer.
use Rattle.std.specs.Prelude.{ℕ, List, [], ◌++◌, Bool, true, false, cond, eqb}
use Rattle.bounded.specs.Limits.{Widths}
use Rattle.sizes.specs.declared.Sizes.{Sizes}
use Rattle.sizes.specs.Sizes.{sizes_of}
use Rattle.text.specs.Scan.{bytes}
use Rattle.text.specs.Print.{decimal}
use Rattle.line.specs.Line.{Said}
use Rattle.rules.specs.Volume.{Volume}
use Rattle.listing.specs.Listing.{answer_text, list_text}
use Rattle.report.specs.declared.Run.{Run}

-- Where a run stands: the sizes of its volume, all 0 before a format has answered 0; memory, which the volume is in front of; whether the run has ended.
pub record Standing : Type 0 where
  pub sizes : Sizes
  pub memory : Volume
  pub over : Bool

-- where the program's run stands, with its memory
unfoldable pub standing : Run → Volume → Standing
standing run memory = record { sizes = run.sizes; memory = memory; over = run.over }

-- The run before its first byte: no volume "before a format has answered 0", and not ended.
abbrev pub start_run : Run
start_run = record { sizes = sizes_of 0 0 0; over = false }

-- One line carried out: the bytes that it prints and where it leaves the run.
pub record Turn : Type 0 where
  pub prints : List ℕ
  pub leaves : Standing

-- where the run stands with another memory
unfoldable pub with_memory : Standing → Volume → Standing
with_memory s memory = record { sizes = s.sizes; memory = memory; over = s.over }

-- a turn that prints a text and leaves the run where it stands
unfoldable pub printing : Standing → List ℕ → Turn
printing s text = record { prints = text; leaves = s }

-- a turn that prints nothing and changes nothing
unfoldable pub idle_turn : Standing → Turn
idle_turn s = printing s []

-- "prints answer=line and ends the run"
unfoldable pub refused_turn : Standing → Turn
refused_turn s =
    record {
      prints = bytes "answer=line\n";
      leaves = record { sizes = s.sizes; memory = s.memory; over = true };
    }

-- "answer=0 done=0": "write with its done after it"; refused, "for write with done=0"
unfoldable pub done_text : (answer done : ℕ) → List ℕ
done_text answer done = bytes "answer=" ++ (decimal answer ++ (bytes " done=" ++ (decimal done ++ bytes "\n")))

-- a format's answer: accepted, the run goes on with a volume of these sizes; "A refused later format leaves the volume as it was."
unfoldable pub formatted : Standing → Sizes → (answer : ℕ) → Turn
formatted s sizes answer =
    record {
      prints = answer_text answer;
      leaves = record { sizes = cond (eqb answer 0) sizes s.sizes; memory = s.memory; over = s.over };
    }

-- What a line prints, by its call's answer and second number, where memory is the volume that the call left; and where it leaves the run.
-- "An accepted call, cut included, prints answer=0, write with its done after it, list as its last line. A refused call prints answer= and its number, for write with done=0."
unfoldable pub told : Widths → Standing → Said → (answer second : ℕ) → Turn
told widths s (Said.Format sizes) answer second = formatted s sizes answer
told widths s (Said.Launch pages) answer second = printing s (answer_text answer)
told widths s (Said.Write page slot fill) answer second = printing s (done_text answer second)
told widths s (Said.Withdraw page) answer second = printing s (answer_text answer)
told widths s (Said.Erase slots) answer second = printing s (answer_text answer)
told widths s Said.Recover answer second = printing s (answer_text answer)
told widths s Said.Cut answer second = printing s (answer_text answer)
told widths s Said.Listing answer second = printing s (list_text widths s.sizes s.memory)
told widths s Said.Malformed answer second = refused_turn s

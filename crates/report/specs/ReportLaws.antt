-- Laws of what is said of a line.
use Rattle.std.specs.Prelude.{ℕ, ◌≡◌, refl, List}
use Rattle.bounded.specs.Limits.{Widths}
use Rattle.sizes.specs.declared.Sizes.{Sizes}
use Rattle.text.specs.declared.print.Printout.{Printout}
use Rattle.text.specs.Puts.{Puts}
use Rattle.text.specs.PutsLaws.{puts_none}
use Rattle.line.specs.declared.Line.{Line}
use Rattle.line.specs.declared.Line.TheVariants as lines
use Rattle.line.specs.Line.{said}
use Rattle.rules.specs.Volume.{Volume}
use Rattle.listing.specs.Listing.{answer_text}
use Rattle.report.specs.declared.Run.{Run}
use Rattle.report.specs.Report.{Standing, standing, Turn, printing, idle_turn, told}

-- A run that went on by a turn, with memory and output as the turn leaves them.
abbrev pub Went : (run : Run) (memory : Volume) (out out₁ : Printout) → Turn → Type 0
Went run memory out out₁ t = (standing run memory ≡ t.leaves) × Puts out out₁ t.prints

-- A run that is as it was went on by an idle turn.
pub went_idle : (run : Run) (memory : Volume) (out : Printout) → Went run memory out out (idle_turn (standing run memory))
unfolding idle_turn printing
went_idle run memory out = (refl, puts_none out)

-- a line that is none of these three is one of which its answer alone is said
pub answer_told :
    (widths : Widths) (s : Standing) (line : Line) (list : List ℕ) (answer second : ℕ)
    → ((sizes : Sizes) → ¬ (line ≡ lines.Format sizes)) → ((page slot fill : ℕ) → ¬ (line ≡ lines.Write page slot fill)) → ¬ (line ≡ lines.List)
    → told widths s (said line list) answer second ≡ printing s (answer_text answer)
unfolding told said
answer_told widths s (lines.Format sizes) list answer second f w l = absurd (f sizes refl)
answer_told widths s (lines.Launch count) list answer second f w l = refl
answer_told widths s (lines.Write page slot fill) list answer second f w l = absurd (w page slot fill refl)
answer_told widths s (lines.Withdraw page) list answer second f w l = refl
answer_told widths s (lines.Erase count) list answer second f w l = refl
answer_told widths s lines.Recover list answer second f w l = refl
answer_told widths s lines.Cut list answer second f w l = refl
answer_told widths s lines.List list answer second f w l = absurd (l refl)

-- Document 01's cases 1 to 12 (★) as one table, with one theorem.
use Rattle.std.specs.Prelude.{ℕ, ◌≡◌, refl, List, [], ◌∷◌, ◌++◌, replicate}
use Rattle.std.proofs.Common.{ap}
use Rattle.bounded.specs.Limits.{no_number, two_widths}
use Rattle.outcome.specs.Outcome.{Outcome}
use Rattle.outcome.specs.Row.{RowsHold, rows_join}
use Rattle.sizes.specs.Sizes.{sizes_of}
use Rattle.rules.specs.Launch.{launch_outcome}
use Rattle.rules.specs.Write.{write_outcome}
use Rattle.rules.specs.cases.Launch.{launch_rows}
use Rattle.rules.proofs.cases.Launch.{launch_rows_lem}
use Rattle.rules.specs.cases.Computing.{computing}
use Rattle.rules.specs.cases.Erase.{volume6}
use Rattle.rules.proofs.cases.Erase.{erase_rows_lem}
use Rattle.rules.specs.cases.Recover.{recover_on, table4, recovery_rows}
use Rattle.rules.proofs.cases.Recover.{recovery_rows_lem}
use Rattle.rules.specs.cases.Star.{recovered4, launched6, volume4, written6, rows6, star_table}

-- ---- the volume that the calls of case 6 leave

recovered4_is : recovered4 ≡ record { answer = 0; second = 5; left = 0 ∷ 1 ∷ no_number ∷ 0 ∷ 2 ∷ 2 ∷ no_number ∷ 0 ∷ 1 ∷ 1 ∷ no_number ∷ 0 ∷ [] }
unfolding recovered4 recover_on table4 computing
recovered4_is = refl

launched6_is : launched6 ≡ record { answer = 0; second = 0; left = 0 ∷ 1 ∷ no_number ∷ 0 ∷ 2 ∷ 3 ∷ 1 ∷ 0 ∷ 1 ∷ 1 ∷ no_number ∷ 0 ∷ [] }
unfolding launched6 computing
launched6_is = ap (λ (o : Outcome (List ℕ)). launch_outcome two_widths (sizes_of 3 8 32) o.left (1 ∷ [])) recovered4_is

written6_is : written6 ≡ record { answer = 0; second = 1; left = volume6 }
unfolding written6 volume4 volume6 table4 computing
written6_is = ap (λ (o : Outcome (List ℕ)). write_outcome two_widths (sizes_of 3 8 32) (volume4 o.left) 1 6 (replicate 32 3)) launched6_is

rows6_hold : RowsHold (rows6 recovered4 launched6 written6)
unfolding rows6 volume6 computing
rows6_hold = rw (recovered4_is, launched6_is, written6_is) (ap (λ (l : List (List ℕ)). (0 ∷ 0 ∷ 0 ∷ 1 ∷ 1 ∷ 3 ∷ 2 ∷ 1 ∷ 3 ∷ []) ∷ l) erase_rows_lem)

-- The ★ cases hold, computed from the definitions; and so does the line under them.
pub star_cases : RowsHold star_table
unfolding star_table
star_cases =
    rows_join recovery_rows (rows6 recovered4 launched6 written6 ++ launch_rows) recovery_rows_lem
    (rows_join (rows6 recovered4 launched6 written6) launch_rows rows6_hold launch_rows_lem)

-- A table of verdicts, one for each page.
use Rattle.std.specs.Prelude.{ℕ, List, get_or}
use Rattle.follow.specs.declared.Verdict.{Verdict}
use Rattle.follow.specs.declared.Verdict.TheVariants.{Committed}

-- the verdict of page p in the table
abbrev pub listed : List Verdict → ℕ → Verdict
listed verdicts p = get_or verdicts p Committed

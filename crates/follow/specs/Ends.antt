-- Where a page's links lead, whatever the start: so many links on they end in a verdict that is not an on, or the page is in a ring.
-- Over any table of verdicts: no record is mentioned.
use Rattle.std.specs.Prelude.{ℕ, suc, ◌≤◌, ◌<◌, ◌≡◌}
use Rattle.follow.specs.declared.Verdict.{Verdict}
use Rattle.follow.specs.declared.Verdict.TheVariants as says
use Rattle.follow.specs.declared.End.{End}
use Rattle.follow.specs.declared.End.TheVariants as ends
use Rattle.follow.specs.Steps.{Ring}

-- ---- ends

-- each of n links from page p leads on but the last, a verdict that is not an on
pub data Ends (v : ℕ → Verdict) : ℕ → End → ℕ → Type 0 where
  last_committed : {p : ℕ} → v p ≡ says.Committed → Ends v p ends.Committed 1
  last_uncommitted : {p : ℕ} → v p ≡ says.Uncommitted → Ends v p ends.Uncommitted 1
  further : {p q n : ℕ} {e : End} → v p ≡ says.On q → Ends v q e n → Ends v p e (suc n)

-- ---- rings

-- page p is one of k pages in a ring, k at most P
pub record InRing (P : ℕ) (v : ℕ → Verdict) (p k : ℕ) : Type 0 where
  pub page : ℕ → ℕ
  pub ring : Ring v k page
  pub few : k ≤ P
  pub place : ℕ
  pub within : place < k
  pub there : page place ≡ p

-- What it is to follow links from a start: which page k links lead to, which link ends the walk, how many are followed; and pages in a ring. Over any table of
-- verdicts: no record is mentioned. (`Follow` computes such a walk; at the end stands one that is not counted.)
use Rattle.std.specs.Prelude.{ℕ, zero, suc, ◌+◌, ◌<◌, ◌≡◌, cond, eqb}
use Rattle.follow.specs.declared.Verdict.{Verdict}
use Rattle.follow.specs.declared.Verdict.TheVariants as says
use Rattle.follow.specs.declared.End.{End}
use Rattle.follow.specs.declared.End.TheVariants as ends

-- k links lead from the start to page q, each going on, and none back at the start
pub data Leads (v : ℕ → Verdict) (start : ℕ) : ℕ → ℕ → Type 0 where
  here : Leads v start 0 start
  onward : {k q r : ℕ} → Leads v start k q → v q ≡ says.On r → ¬ (r ≡ start) → Leads v start (suc k) r

-- the link at page q ends the walk: its verdict is committed or uncommitted, or it is back at the start
pub data EndsAt (v : ℕ → Verdict) (start q : ℕ) : End → Type 0 where
  committed : v q ≡ says.Committed → EndsAt v start q ends.Committed
  uncommitted : v q ≡ says.Uncommitted → EndsAt v start q ends.Uncommitted
  back : v q ≡ says.On start → EndsAt v start q ends.Committed

-- So many links are followed from the start, and this is the end: each before the last leads on to a page other than the start, and the last decides or is
-- back at the start.
pub record Walked (v : ℕ → Verdict) (start : ℕ) (end : End) (links : ℕ) : Type 0 where
  pub before : ℕ
  pub page : ℕ
  pub leads : Leads v start before page
  pub decides : EndsAt v start page end
  pub counted : links ≡ before + 1

-- k pages in a ring: the link of each leads on to the next, that of the last to the first, and no two are one page.
pub record Ring (v : ℕ → Verdict) (k : ℕ) (page : ℕ → ℕ) : Type 0 where
  pub leads_on : (i : ℕ) → i < k → v (page i) ≡ says.On (page (suc i))
  pub closed : page k ≡ page 0
  pub apart : (i j : ℕ) → i < j → j < k → ¬ (page i ≡ page j)

-- the page after page p where all P pages are in one ring: the next number, 0 after the last
unfoldable pub next_in_ring : (P p : ℕ) → ℕ
next_in_ring P p = cond (eqb (suc p) P) 0 (suc p)

-- where one link of a walk from `start` ends it, by its verdict, or where the walk goes on; and the whole walk, with n links at the most: nothing is counted
unfoldable pub link_end : ℕ → Verdict → (ℕ → End) → End
link_end start says.Committed rest = ends.Committed
link_end start says.Uncommitted rest = ends.Uncommitted
link_end start (says.On q) rest = cond (eqb q start) ends.Committed (rest q)

unfoldable pub end_from : (ℕ → Verdict) → (start n q : ℕ) → End
end_from v start zero q = ends.Astray
end_from v start (suc n) q = link_end start (v q) (λ r. end_from v start n r)

-- Every page's walk found once: an entry for each page in a table, and what is known of the table while it is filled.
use Rattle.std.specs.Prelude.{ℕ, ◌-◌, ◌<◌, ◌≡◌, List, length, get_or, Result, Ok, Err}
use Rattle.outcome.specs.declared.Refusal.{Refusal}
use Rattle.outcome.specs.declared.Refusal.TheVariants.{LinksAstray}
use Rattle.follow.specs.declared.Verdict.{Verdict}
use Rattle.follow.specs.declared.End.TheVariants as ends
use Rattle.follow.specs.declared.Walk.{Walk}
use Rattle.follow.specs.declared.Found.{Found}
use Rattle.follow.specs.declared.Found.TheVariants as found
use Rattle.follow.specs.Follow.{follow}
use Rattle.follow.specs.Steps.{Leads}
use Rattle.follow.specs.Ends.{Ends, InRing}

-- the walk that is found: back at the start is committed
abbrev pub walk_told : Found → Walk
walk_told found.Nothing = record { end = ends.Uncommitted; links = 0 }
walk_told (found.Committed links) = record { end = ends.Committed; links = links }
walk_told (found.Uncommitted links) = record { end = ends.Uncommitted; links = links }
walk_told (found.Ring pages) = record { end = ends.Committed; links = pages }

-- each of P pages has its walk in the table
pub record Followed (P : ℕ) (v : ℕ → Verdict) (walks : List Found) : Type 0 where
  pub each : (p : ℕ) → p < P → walk_told (get_or walks p found.Nothing) ≡ follow P v p

-- ---- the table while it is filled

-- this is page p's walk: to an end so many links on, or round a ring
pub data Tells (P : ℕ) (v : ℕ → Verdict) (p : ℕ) (n : Found) : Type 0 where
  committed_end : {links : ℕ} → Ends v p ends.Committed links → n ≡ found.Committed links → Tells P v p n
  uncommitted_end : {links : ℕ} → Ends v p ends.Uncommitted links → n ≡ found.Uncommitted links → Tells P v p n
  ring_end : {k : ℕ} → InRing P v p k → n ≡ found.Ring k → Tells P v p n

-- how many links, or pages of a ring
abbrev pub links_found : Found → ℕ
links_found found.Nothing = 0
links_found (found.Committed links) = links
links_found (found.Uncommitted links) = links
links_found (found.Ring pages) = pages

-- what is found of the page that a page's link leads to: one link less, or the same ring
abbrev pub found_on : Found → Found
found_on found.Nothing = found.Nothing
found_on (found.Committed links) = found.Committed (links - 1)
found_on (found.Uncommitted links) = found.Uncommitted (links - 1)
found_on (found.Ring pages) = found.Ring pages

-- page p has an entry
abbrev pub HasEntry : List Found → ℕ → Type 0
HasEntry walks p = ¬ (get_or walks p found.Nothing ≡ found.Nothing)

-- each of P pages has no entry yet, or its walk
pub record Known (P : ℕ) (v : ℕ → Verdict) (walks : List Found) : Type 0 where
  pub sized : length walks ≡ 256
  pub entry : (p : ℕ) → p < P → HasEntry walks p → Tells P v p (get_or walks p found.Nothing)

-- what has an entry keeps one
abbrev pub Keeps : List Found → List Found → Type 0
Keeps before after = (p : ℕ) → HasEntry before p → HasEntry after p

-- the table is known, page p has an entry, and so has each that had one
pub record Given (P : ℕ) (v : ℕ → Verdict) (p : ℕ) (before after : List Found) : Type 0 where
  pub known : Known P v after
  pub has : HasEntry after p
  pub keeps : Keeps before after

-- on the way from a start, now at a page below P, so many links on
pub record Underway (P : ℕ) (v : ℕ → Verdict) (start page links : ℕ) : Type 0 where
  pub inside : page < P
  pub leads : Leads v start links page

-- a start's links run astray, which is why it is refused
abbrev pub GoesAstray : (P : ℕ) → (ℕ → Verdict) → (start : ℕ) → Refusal → Type 0
GoesAstray P v start refusal = (refusal ≡ LinksAstray) × ((follow P v start).end ≡ ends.Astray)

-- what is found of a start: its walk, or that its links run astray
abbrev pub WalkFound : (P : ℕ) → (ℕ → Verdict) → (start : ℕ) → Result Found Refusal → Type 0
WalkFound P v start (Ok n) = Tells P v start n
WalkFound P v start (Err refusal) = GoesAstray P v start refusal

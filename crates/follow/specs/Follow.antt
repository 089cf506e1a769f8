-- The walk from a start, computed: `Walked` of Steps says what it is, and that the two agree is `LinksAreSteps` of crate rules. Over any table of verdicts: no record and no state is mentioned.
use Rattle.std.specs.Prelude.{ℕ, zero, suc, ◌+◌, ◌<◌, ◌≡◌, Bool, true, false, cond, eqb}
use Rattle.bounded.specs.Below.{sum_below}
use Rattle.follow.specs.declared.Verdict.{Verdict}
use Rattle.follow.specs.declared.Verdict.TheVariants as says
use Rattle.follow.specs.declared.End.{End}
use Rattle.follow.specs.declared.End.TheVariants as ends
use Rattle.follow.specs.declared.Walk.{Walk}

-- the walk that ends with this link
unfoldable pub ends_here : End → Walk
ends_here e = record { end = e; links = 1 }

-- this walk with one link more compared before it
unfoldable pub one_more : Walk → Walk
one_more walk = record { end = walk.end; links = walk.links + 1 }

-- One link of a walk from `start`, by its verdict: it ends here, or goes on at the page named. "Back at the start: committed."
unfoldable pub link : ℕ → Verdict → (ℕ → Walk) → Walk
link start says.Committed rest = ends_here ends.Committed
link start says.Uncommitted rest = ends_here ends.Uncommitted
link start (says.On q) rest = cond (eqb q start) (ends_here ends.Committed) (one_more (rest q))

-- "From each page's highest record follow the links": the walk from `start`, now at page q, with n links at the most.
-- Where they are not enough the links have run astray.
unfoldable pub follow_from : (ℕ → Verdict) → (start n q : ℕ) → Walk
follow_from v start zero q = record { end = ends.Astray; links = 0 }
follow_from v start (suc n) q = link start (v q) (λ r. follow_from v start n r)

-- the whole walk from `start`, among P pages: P links are enough
unfoldable pub follow : ℕ → (ℕ → Verdict) → ℕ → Walk
follow P v start = follow_from v start P start

-- Document 02: "the number of links followed, summed over pages, one for each record whose link is compared, the deciding link and the return to the
-- start included"
unfoldable pub links_followed : ℕ → (ℕ → Verdict) → ℕ
links_followed P v = sum_below P (λ p. (follow P v p).links)

-- "the links run into a ring that lacks the start"
unfoldable pub is_astray : End → Bool
is_astray ends.Committed = false
is_astray ends.Uncommitted = false
is_astray ends.Astray = true

-- every verdict of a page below P that goes on goes on at a page below P
abbrev pub StaysInside : ℕ → (ℕ → Verdict) → Type 0
StaysInside P v = (q r : ℕ) → q < P → v q ≡ says.On r → r < P

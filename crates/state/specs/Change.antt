-- What format, launch, write, withdraw and recovery make of a page's state. Document 01, "The calls".
use Rattle.std.specs.Prelude.{ℕ, ◌+◌, List, Bool, cond, ltb, eqb, length, get_or}
use Rattle.bounded.specs.Limits.{no_number}
use Rattle.bounded.specs.Below.{first_below}
use Rattle.bounded.specs.Parts.{update}
use Rattle.state.specs.declared.PageState.{PageState}
use Rattle.state.specs.Cycle.{on_cycle, cycle_written}

-- a page at rest: not in flight, written 0
unfoldable pub at_rest : (committed used : ℕ) → PageState
at_rest committed used = record { committed = committed; used = used; next = no_number; written = 0 }

-- Format: "the sheet says 0, 0, not in flight, 0 for each page"
unfoldable pub fresh_state : ℕ → PageState
unfolding at_rest
fresh_state p = at_rest 0 0

-- the place of the page in a list; the list's length where it is not listed
unfoldable pub place_of : List ℕ → ℕ → ℕ
place_of pages p = first_below (length pages) (λ i. eqb (get_or pages i 0) p)

-- "its next is the following page in the list (the last points to the first)"
unfoldable pub following : List ℕ → ℕ → ℕ
following pages i = get_or pages (cond (ltb (i + 1) (length pages)) (i + 1) 0) 0

-- Launch: "each page's used rises by 1, its next is the following page …, written is 0"
unfoldable pub launched_page : PageState → ℕ → PageState
launched_page s next = record { committed = s.committed; used = s.used + 1; next = next; written = 0 }

unfoldable pub launched : List ℕ → (ℕ → PageState) → ℕ → PageState
launched pages st p = cond (ltb (place_of pages p) (length pages)) (launched_page (st p) (following pages (place_of pages p))) (st p)

-- Write: "The page becomes written."
unfoldable pub written_page : PageState → PageState
written_page s = record { committed = s.committed; used = s.used; next = s.next; written = 1 }

unfoldable pub marked : (ℕ → PageState) → ℕ → ℕ → PageState
marked st p = update st p (written_page (st p))

-- "If its whole ring is then written", once p is marked: the write completes the ring
unfoldable pub completes : ℕ → (ℕ → PageState) → ℕ → Bool
completes P st p = cycle_written P (marked st p) p

-- "each of its pages gets committed = used and leaves flight, written 0"
unfoldable pub committed_page : PageState → PageState
unfolding at_rest
committed_page s = at_rest s.used s.used

unfoldable pub completed : ℕ → (ℕ → PageState) → ℕ → ℕ → PageState
completed P st p q = cond (on_cycle P st p q) (committed_page (st q)) (st q)

-- the state after an accepted write of page p
unfoldable pub after_write : ℕ → (ℕ → PageState) → ℕ → ℕ → PageState
after_write P st p q = cond (completes P st p) (completed P (marked st p) p q) (marked st p q)

-- Withdraw: "every page of the ring leaves flight, written 0; nothing else changes"
unfoldable pub withdrawn_page : PageState → PageState
unfolding at_rest
withdrawn_page s = at_rest s.committed s.used

unfoldable pub withdrawn : ℕ → (ℕ → PageState) → ℕ → ℕ → PageState
withdrawn P st p q = cond (on_cycle P st p q) (withdrawn_page (st q)) (st q)

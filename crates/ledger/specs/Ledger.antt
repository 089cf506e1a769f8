-- What the ledger's buffers hold behind a call, page by page.
use Rattle.std.specs.Prelude.{ℕ, List, Bool, cond, not, ◌&&◌, eqb, get_or, replicate}
use Rattle.bounded.specs.Limits.{no_number}
use Rattle.bounded.specs.Entries.{stored}
use Rattle.state.specs.declared.PageState.{PageState}
use Rattle.state.specs.State.{in_flight}

-- each page's kept contents, w bytes all of which are its fill
unfoldable pub filled : ℕ → (fills : List ℕ) → ℕ → List ℕ
filled w fills page = replicate w (get_or fills page 0)

-- what is entered for a page with this state then: it stays while the page is in flight
unfoldable pub entered_then : PageState → (entered : ℕ) → ℕ
entered_then s entered = cond (in_flight s) entered no_number

-- what is kept of it: what is entered, where a ring was completed and the page has left flight
unfoldable pub kept_then : (done : Bool) → PageState → (entered kept : ℕ) → ℕ
kept_then done s entered kept = cond (done && (not (in_flight s) && not (eqb entered no_number))) entered kept

-- the same of P pages
unfoldable pub settled_entered : (P : ℕ) → (ℕ → PageState) → (entered : List ℕ) → List ℕ
settled_entered P st entered = stored (λ p. entered_then (st p) (get_or entered p 0)) P entered

unfoldable pub settled_kept : (P : ℕ) (done : Bool) → (ℕ → PageState) → (entered kept : List ℕ) → List ℕ
settled_kept P done st entered kept = stored (λ p. kept_then done (st p) (get_or entered p 0) (get_or kept p 0)) P kept

-- What the walks along a cycle and along a list have done after some steps.
use Rattle.std.specs.Prelude.{ℕ, suc, ◌-◌, ◌*◌, ◌/◌, ◌≤◌, ◌<◌, ◌≡◌, List, Bool, true, false, cond, ltb, eqb, length, get_or}
use Rattle.bounded.specs.Limits.{highest_version}
use Rattle.bounded.specs.Below.{all_below, some_below, first_below}
use Rattle.state.specs.declared.PageState.{PageState}
use Rattle.state.specs.State.{state_at, state_words, in_flight, is_written, state_sound}
use Rattle.state.specs.Cycle.{along, on_cycle}
use Rattle.state.specs.Change.{place_of, following, launched_page, committed_page, withdrawn_page}

-- the pages that a state's words are of, four words each
unfoldable pub pages_in : List ℕ → ℕ
pages_in words = length words / 4

-- the steps from p to its first return
unfoldable pub lap : ℕ → (ℕ → PageState) → ℕ → ℕ
lap P st p = suc (first_below P (λ k. eqb (along st p (suc k)) p))

-- the steps that next leads from p to q
unfoldable pub steps : ℕ → (ℕ → PageState) → ℕ → ℕ → ℕ
steps P st p q = first_below P (λ k. eqb (along st p k) q)

-- the state with the first n pages from p on changed by f
unfoldable pub walked : (PageState → PageState) → (ℕ → PageState) → ℕ → ℕ → ℕ → PageState
walked f st p n q = cond (some_below n (λ k. eqb (along st p k) q)) (f (st q)) (st q)

-- the steps that a walk from p has left at q
unfoldable pub left : ℕ → (ℕ → PageState) → ℕ → ℕ → ℕ
left P st p q = lap P st p - steps P st p q

-- the pages from behind p up to at, at not included, are written
unfoldable pub written_to : ℕ → (ℕ → PageState) → ℕ → ℕ → Bool
unfolding steps
written_to P st p at = all_below (steps P st (st p).next at) (λ k. is_written (st (along st (st p).next k)))

-- a page leaves flight, as committed or as withdrawn
unfoldable pub ended_page : Bool → PageState → PageState
ended_page commits s = cond commits (committed_page s) (withdrawn_page s)

-- every page on p's cycle leaves flight
unfoldable pub cycle_ended : Bool → ℕ → (ℕ → PageState) → ℕ → ℕ → PageState
cycle_ended commits P st p q = cond (on_cycle P st p q) (ended_page commits (st q)) (st q)

-- the state with the first n listed pages launched
unfoldable pub launched_first : ℕ → List ℕ → (ℕ → PageState) → ℕ → PageState
launched_first n pages st p = cond (ltb (place_of pages p) n) (launched_page (st p) (following pages (place_of pages p))) (st p)

-- the words are of P pages, the state is sound, and the page is in flight
pub record Walkable (P : ℕ) (words : List ℕ) (page : ℕ) : Type 0 where
  pub fits : length words ≡ 4 * P
  pub sound : state_sound P (state_at words) ≡ true
  pub below : page < P
  pub flies : in_flight (state_at words page) ≡ true

-- the walk that changes each page of the cycle by g has come to at
pub record Walking (g : PageState → PageState) (P : ℕ) (entry : List ℕ) (page : ℕ) (words : List ℕ) (at : ℕ) : Type 0 where
  pub on_cycle_lem : on_cycle P (state_at entry) page at ≡ true
  pub so_far : words ≡ state_words P (walked g (state_at entry) page (steps P (state_at entry) page at))

-- the search behind page for a page that is not written has come to at
pub record Searching (P : ℕ) (words : List ℕ) (page at : ℕ) : Type 0 where
  pub on_cycle_lem : on_cycle P (state_at words) (state_at words page).next at ≡ true
  pub written : written_to P (state_at words) page at ≡ true

-- the listed pages are below P, no two the same, none in flight, and each has a version left
pub record Launchable (P : ℕ) (st : ℕ → PageState) (pages : List ℕ) : Type 0 where
  pub in_range_lem : (i : ℕ) → i < length pages → get_or pages i 0 < P
  pub no_repeats_lem : (i j : ℕ) → i < j → j < length pages → ¬ (get_or pages i 0 ≡ get_or pages j 0)
  pub resting : (i : ℕ) → i < length pages → in_flight (st (get_or pages i 0)) ≡ false
  pub version_left : (i : ℕ) → i < length pages → (st (get_or pages i 0)).used < highest_version

-- the walk along the list has launched its first i pages
pub record Launching (P : ℕ) (entry pages words : List ℕ) (i : ℕ) : Type 0 where
  pub within : i ≤ length pages
  pub so_far : words ≡ state_words P (launched_first i pages (state_at entry))

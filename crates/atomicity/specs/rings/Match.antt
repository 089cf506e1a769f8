-- The reference model's open rings and the state: what it is that they match.
use Rattle.std.specs.Prelude.{ℕ, ◌≤◌, ◌<◌, ◌≡◌, Bool, true, false, cond, ◌||◌, length, get_or}
use mathlib.Core.List.{List, [], ◌∷◌, Memᴰ}
use Rattle.state.specs.declared.PageState.{PageState}
use Rattle.state.specs.State.{is_written}
use Rattle.state.specs.Change.{following}
use Rattle.state.specs.CycleLaws.{Flies}
use Rattle.atomicity.specs.Model.{Entry, entry_page, has_bytes, in_ring}

-- the pages of a ring, in their order
unfoldable pub pages_of : List Entry → List ℕ
pages_of [] = []
pages_of (e ∷ ring) = entry_page e ∷ pages_of ring

-- the page stands in some open ring
unfoldable pub in_rings : ℕ → List (List Entry) → Bool
in_rings page [] = false
in_rings page (ring ∷ rings) = in_ring page ring || in_rings page rings

-- the open ring in which the page stands, the first such; empty where there is none
unfoldable pub ring_of : ℕ → List (List Entry) → List Entry
ring_of page [] = []
ring_of page (ring ∷ rings) = cond (in_ring page ring) ring (ring_of page rings)

-- the bytes are entered for the page in an open ring
abbrev pub IsEntered : List (List Entry) → ℕ → List ℕ → Type 0
IsEntered rings page bytes = (ring : List Entry) × Memᴰ ring rings × Memᴰ (Entry.Entered page bytes) ring

-- no page of the list is listed twice
abbrev pub NoRepeats : List ℕ → Type 0
NoRepeats pages = (i j : ℕ) → i < j → j < length pages → ¬ (get_or pages i 0 ≡ get_or pages j 0)

-- the listed pages are in flight, and next runs round them in the list's order, from the last to the first
pub record RunsRound (P : ℕ) (st : ℕ → PageState) (pages : List ℕ) : Type 0 where
  pub not_empty : 1 ≤ length pages
  pub flying : (i : ℕ) → i < length pages → Flies P st (get_or pages i 0)
  pub no_repeats_lem : NoRepeats pages
  pub linked : (i : ℕ) → i < length pages → (st (get_or pages i 0)).next ≡ following pages i

-- next runs round the ring's pages, and of these exactly the written ones have bytes entered
pub record RingMatches (P : ℕ) (st : ℕ → PageState) (ring : List Entry) : Type 0 where
  pub runs : RunsRound P st (pages_of ring)
  pub written : (e : Entry) → Memᴰ e ring → is_written (st (entry_page e)) ≡ has_bytes e

-- no page stands in two rings of the list
pub data Apart : List (List Entry) → Type 0 where
  none : Apart []
  more : {ring : List Entry} {rings : List (List Entry)} → ((p : ℕ) → in_ring p ring ≡ true → in_rings p rings ≡ false) → Apart rings → Apart (ring ∷ rings)

-- the pages in flight are exactly the pages of the open rings, each of which matches the state
pub record RingsMatch (P : ℕ) (st : ℕ → PageState) (rings : List (List Entry)) : Type 0 where
  pub each : (ring : List Entry) → Memᴰ ring rings → RingMatches P st ring
  pub apart : Apart rings
  pub covered : (p : ℕ) → Flies P st p → in_rings p rings ≡ true

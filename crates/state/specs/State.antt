-- The state ("sheet"): its words, and when it is sound (document 01, "The volume and the sheet"); when a page is set (document 02, wish 3).
use Rattle.std.specs.Prelude.{ℕ, List, [], ◌∷◌, Bool, not, ◌&&◌, ◌||◌, ltb, leb, eqb, get_or}
use Rattle.bounded.specs.Limits.{no_number, highest_version}
use Rattle.bounded.specs.Below.{all_below}
use Rattle.bounded.specs.Parts.{part, join_parts}
use Rattle.state.specs.declared.PageState.{PageState}

-- the four words of a page, in their order
unfoldable pub page_words : PageState → List ℕ
page_words s = s.committed ∷ s.used ∷ s.next ∷ s.written ∷ []

-- the page's state that four words are
unfoldable pub page_of : List ℕ → PageState
page_of ws = record { committed = get_or ws 0 0; used = get_or ws 1 0; next = get_or ws 2 0; written = get_or ws 3 0 }

-- "4×P 32-bit words, four for each page": page p has words 4p to 4p + 3
unfoldable pub state_at : List ℕ → ℕ → PageState
state_at words p = page_of (part 4 p words)

-- the words of a state of P pages
unfoldable pub state_words : ℕ → (ℕ → PageState) → List ℕ
state_words P st = join_parts P (λ p. page_words (st p))

-- "(4,294,967,295: not in flight)"
unfoldable pub in_flight : PageState → Bool
in_flight s = not (eqb s.next no_number)

unfoldable pub is_written : PageState → Bool
is_written s = eqb s.written 1

-- Document 02: "A page is empty exactly when its committed version is 0"; any other is set.
unfoldable pub is_set : PageState → Bool
is_set s = not (eqb s.committed 0)

-- "committed is at most used, used is at most 4,294,967,294"
unfoldable pub versions_sound : PageState → Bool
versions_sound s = leb s.committed s.used && leb s.used highest_version

-- "a page in flight has committed below used, its next page is below P and also in flight"
unfoldable pub flight_sound : ℕ → (ℕ → PageState) → PageState → Bool
flight_sound P st s = not (in_flight s) || (ltb s.committed s.used && (ltb s.next P && in_flight (st s.next)))

-- "written is 0 or 1, and 0 for a page not in flight"
unfoldable pub written_sound : PageState → Bool
written_sound s = eqb s.written 0 || (eqb s.written 1 && in_flight s)

unfoldable pub page_sound : ℕ → (ℕ → PageState) → ℕ → Bool
page_sound P st p = versions_sound (st p) && (flight_sound P st (st p) && written_sound (st p))

-- two pages in flight with the same next page
unfoldable pub share_next : PageState → PageState → Bool
share_next s u = in_flight s && (in_flight u && eqb s.next u.next)

-- "no two pages in flight share a next page"
unfoldable pub nexts_apart : ℕ → (ℕ → PageState) → Bool
nexts_apart P st = all_below P (λ p. all_below p (λ q. not (share_next (st q) (st p))))

-- The state "is sound if …"
unfoldable pub state_sound : ℕ → (ℕ → PageState) → Bool
state_sound P st = all_below P (page_sound P st) && nexts_apart P st

-- The call recover.
use Rattle.std.specs.Prelude.{ℕ, List, not, ◌||◌}
use Rattle.bounded.specs.Limits.{Widths}
use Rattle.bounded.specs.Below.{all_below, some_below}
use Rattle.outcome.specs.Outcome.{◌⇒◌otherwise◌, Outcome, settled}
use Rattle.sizes.specs.declared.Sizes.{Sizes}
use Rattle.record.specs.Slot.{Slot}
use Rattle.std.specs.Prelude.{None, Some}
use Rattle.state.specs.declared.PageState.{PageState}
use Rattle.state.specs.State.{state_words}
use Rattle.state.specs.Change.{at_rest}
use Rattle.table.specs.Table.{table_sound, has_record, has_version, highest, version_in, used_of}
use Rattle.follow.specs.declared.End.{End}
use Rattle.follow.specs.declared.End.TheVariants as ends
use Rattle.follow.specs.declared.Walk.{Walk}
use Rattle.follow.specs.Follow.{follow, links_followed, is_astray}
use Rattle.twins.specs.Twins.{twins, some_conflict}
use Rattle.rules.specs.Volume.{Volume, volume_fits, slots_of}
use Rattle.rules.specs.Verdict.{verdict}

-- the walk from page p's highest record
unfoldable pub walk_of : (P S : ℕ) → (ℕ → Slot) → ℕ → Walk
walk_of P S t p = follow P (verdict S t) p

-- "the number of links followed, summed over pages"
unfoldable pub links_of : (P S : ℕ) → (ℕ → Slot) → ℕ
links_of P S t = links_followed P (verdict S t)

-- the back pointer in a slot; 0 where it is blank
unfoldable pub back_pointer : Slot → ℕ
back_pointer None = 0
back_pointer (Some r) = r.c

-- "Committed = hv(p), or else the c of p's highest record." (A walk gone astray is refused by 4.)
unfoldable pub committed_by : End → Slot → ℕ
committed_by ends.Committed top = version_in top
committed_by ends.Uncommitted top = back_pointer top
committed_by ends.Astray top = back_pointer top

unfoldable pub committed_of : (P S : ℕ) → (ℕ → Slot) → ℕ → ℕ
committed_of P S t p = committed_by (walk_of P S t p).end (highest S t p)

-- "No page is in flight, and written is 0 for all."
unfoldable pub recovered : (P S : ℕ) → (ℕ → Slot) → ℕ → PageState
unfolding at_rest
recovered P S t p = at_rest (committed_of P S t p) (used_of S t p)

-- "Recovery and suggest now read the contents too", to tell twins: of the state it sees the length, and the old state "may hold anything".
unfoldable pub recover_answer : Widths → Sizes → Volume → ℕ
recover_answer widths sizes v =
    not (volume_fits widths sizes v) ⇒ 1 otherwise
    not (table_sound sizes.pages sizes.slots (slots_of v)) ⇒ 2 otherwise
    (some_conflict sizes.slots (slots_of v) (twins sizes.width v.flash) || not (all_below sizes.pages (has_record sizes.slots (slots_of v)))) ⇒ 3 otherwise
    some_below sizes.pages (λ p. is_astray (walk_of sizes.pages sizes.slots (slots_of v) p).end) ⇒ 4 otherwise
    not (all_below sizes.pages (λ p. has_version sizes.slots (slots_of v) p (committed_of sizes.pages sizes.slots (slots_of v) p))) ⇒ 14 otherwise
    0

-- "Recover: fills the sheet from the slot table". It alters the state alone. Document 02: "Recovery … shall also return the number of links followed …; on
-- refusal 0."
unfoldable pub recover_outcome : Widths → Sizes → Volume → Outcome (List ℕ)
recover_outcome widths sizes v =
    settled (recover_answer widths sizes v) 0 (links_of sizes.pages sizes.slots (slots_of v))
    v.state (state_words sizes.pages (recovered sizes.pages sizes.slots (slots_of v)))

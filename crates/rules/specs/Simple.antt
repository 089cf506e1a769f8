-- Records without a back pointer (Simple Cyclic Commit), document 02, wish 5: the rules that differ from document 01's, over the same slots. A four-word
-- record is a record whose back pointer is 0, which is always sound, and nothing here looks at it.
use Rattle.std.specs.Prelude.{ℕ, List, Bool, cond, not, ◌&&◌, ◌||◌, ltb, eqb, length, get_or}
use Rattle.bounded.specs.Below.{all_below}
use Rattle.record.specs.declared.Record.{Record}
use Rattle.record.specs.Slot.{Slot}
use Rattle.std.specs.Prelude.{None, Some}
use Rattle.record.specs.Slot.{holds, some_record, is_blank}
use Rattle.state.specs.declared.PageState.{PageState}
use Rattle.state.specs.Change.{at_rest}
use Rattle.table.specs.Table.{highest, highest_version_of, version_in, used_of}
use Rattle.follow.specs.declared.Verdict.{Verdict}
use Rattle.follow.specs.declared.Verdict.TheVariants.{Committed, Uncommitted, On}
use Rattle.follow.specs.declared.End.{End}
use Rattle.follow.specs.declared.End.TheVariants as ends
use Rattle.follow.specs.declared.Walk.{Walk}
use Rattle.follow.specs.Follow.{follow}
use Rattle.rules.specs.Permission.{is_obsolete, is_exposed, is_current}

-- ---- recovery

-- "Case 1 of recovery means committed"; cases 2 and 3 are document 01's.
unfoldable pub simple_link_verdict : ℕ → (ℕ → Slot) → Record → Verdict
simple_link_verdict S t J =
    cond (ltb J.nv (highest_version_of S t J.np)) Committed (cond (ltb (highest_version_of S t J.np) J.nv) Uncommitted (On J.np))

unfoldable pub simple_slot_verdict : ℕ → (ℕ → Slot) → Slot → Verdict
simple_slot_verdict S t None = Uncommitted
simple_slot_verdict S t (Some J) = simple_link_verdict S t J

-- the verdict of page p's highest record, and the walk from it
unfoldable pub simple_verdict : ℕ → (ℕ → Slot) → ℕ → Verdict
simple_verdict S t p = simple_slot_verdict S t (highest S t p)

unfoldable pub simple_walk_of : (P S : ℕ) → (ℕ → Slot) → ℕ → Walk
simple_walk_of P S t p = follow P (simple_verdict S t) p

-- the table of the records below version n
unfoldable pub under : ℕ → (ℕ → Slot) → ℕ → Slot
under n t k = cond (holds (λ r. ltb r.v n) (t k)) (t k) None

-- page p's record at "the second highest version"; blank where there is none
unfoldable pub second : ℕ → (ℕ → Slot) → ℕ → Slot
second S t p = highest S (under (highest_version_of S t p) t) p

-- the record that holds page p's committed version, by where the walk from p ends: "an uncommitted highest gives the second highest version"
unfoldable pub simple_committed_slot : End → ℕ → (ℕ → Slot) → ℕ → Slot
simple_committed_slot ends.Committed S t p = highest S t p
simple_committed_slot ends.Uncommitted S t p = second S t p
simple_committed_slot ends.Astray S t p = second S t p

unfoldable pub committed_slot_of : (P S : ℕ) → (ℕ → Slot) → ℕ → Slot
committed_slot_of P S t p = simple_committed_slot (simple_walk_of P S t p).end S t p

-- "With no second version recovery gives 14": page p has a committed version
unfoldable pub has_committed : (P S : ℕ) → (ℕ → Slot) → ℕ → Bool
has_committed P S t p = not (is_blank (committed_slot_of P S t p))

unfoldable pub simple_recovered : (P S : ℕ) → (ℕ → Slot) → ℕ → PageState
unfolding at_rest
simple_recovered P S t p = at_rest (version_in (committed_slot_of P S t p)) (used_of S t p)

-- ---- erasing

-- "any obsolete record may be erased", and as before an exposed record other than one whose page is in flight with v = used
unfoldable pub simple_may_erase_record : (ℕ → PageState) → Record → Bool
simple_may_erase_record st r = is_obsolete st r || (is_exposed st r && not (is_current st r))

unfoldable pub simple_may_erase : (ℕ → Slot) → (ℕ → PageState) → ℕ → Bool
simple_may_erase t st k = holds (simple_may_erase_record st) (t k)

unfoldable pub simple_may_erase_all : (ℕ → Slot) → (ℕ → PageState) → List ℕ → Bool
simple_may_erase_all t st slots = all_below (length slots) (λ i. simple_may_erase t st (get_or slots i 0))

-- ---- writing

-- "an exposed record with J.p = p and J.v < v, or J.np = p and J.nv < v": a write of page p at version v buries J
unfoldable pub buried_by : (ℕ → PageState) → (p v : ℕ) → Record → Bool
buried_by st p v J = is_exposed st J && ((eqb J.p p && ltb J.v v) || (eqb J.np p && ltb J.nv v))

-- "a record would be buried": the write is of page p at its used version
unfoldable pub would_bury : ℕ → (ℕ → Slot) → (ℕ → PageState) → ℕ → Bool
would_bury S t st p = some_record S t (buried_by st p (st p).used)

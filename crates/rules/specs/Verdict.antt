-- One link's verdict: document 01, "Recovery", cases 1 to 3.
use Rattle.std.specs.Prelude.{ℕ, Bool, cond, ltb}
use Rattle.record.specs.declared.Record.{Record}
use Rattle.record.specs.Slot.{Slot}
use Rattle.std.specs.Prelude.{None, Some}
use Rattle.record.specs.Slot.{some_record, straddles}
use Rattle.table.specs.Table.{highest, highest_version_of}
use Rattle.follow.specs.declared.Verdict.{Verdict}
use Rattle.follow.specs.declared.Verdict.TheVariants.{Committed, Uncommitted, On}

-- "any record straddles J's link"
unfoldable pub is_straddled : ℕ → (ℕ → Slot) → Record → Bool
is_straddled S t J = some_record S t (λ K. straddles K J)

-- "1. J.nv < hv(J.np): the start is uncommitted if any record straddles J's link, else committed.
--  2. J.nv > hv(J.np): uncommitted.
--  3. Equal: go on at np's highest record."
unfoldable pub link_verdict : ℕ → (ℕ → Slot) → Record → Verdict
link_verdict S t J =
    cond (ltb J.nv (highest_version_of S t J.np)) (cond (is_straddled S t J) Uncommitted Committed)
    (cond (ltb (highest_version_of S t J.np) J.nv) Uncommitted (On J.np))

-- the verdict of the record that a slot holds; a blank slot, of a page without a record (answer 3), says uncommitted
unfoldable pub slot_verdict : ℕ → (ℕ → Slot) → Slot → Verdict
slot_verdict S t None = Uncommitted
slot_verdict S t (Some J) = link_verdict S t J

-- the verdict of page p's highest record
unfoldable pub verdict : ℕ → (ℕ → Slot) → ℕ → Verdict
verdict S t p = slot_verdict S t (highest S t p)

-- The slot table as a function from slot to what it holds.
use Rattle.std.specs.Prelude.{ℕ, zero, suc, max, Bool, true, false, cond, ◌&&◌, ltb, eqb}
use Rattle.bounded.specs.Below.{all_below, some_below, first_below, max_below}
use Rattle.record.specs.declared.Record.{Record}
use Rattle.record.specs.Slot.{Slot}
use Rattle.std.specs.Prelude.{None, Some}
use Rattle.record.specs.Slot.{slot_sound, holds, some_record}

-- no "slot neither blank nor sound"
unfoldable pub table_sound : (P S : ℕ) → (ℕ → Slot) → Bool
table_sound P S t = all_below S (λ k. slot_sound P (t k))

-- a record of page p
unfoldable pub of_page : ℕ → Record → Bool
of_page p r = eqb r.p p

-- a record of page p at version v
unfoldable pub of_version : (p v : ℕ) → Record → Bool
of_version p v r = eqb r.p p && eqb r.v v

-- "two records with equal page and version"
unfoldable pub clash : Slot → Slot → Bool
clash a None = false
clash a (Some r) = holds (of_version r.p r.v) a

unfoldable pub some_clash : ℕ → (ℕ → Slot) → Bool
some_clash S t = some_below S (λ k. some_below k (λ j. clash (t j) (t k)))

-- a page with a record
unfoldable pub has_record : ℕ → (ℕ → Slot) → ℕ → Bool
has_record S t p = some_record S t (of_page p)

-- "the lowest slot holding the page at" version v; S where there is none
unfoldable pub lowest_slot : ℕ → (ℕ → Slot) → (p v : ℕ) → ℕ
lowest_slot S t p v = first_below S (λ k. holds (of_version p v) (t k))

-- a "record with the committed version": page p has one at version v
unfoldable pub has_version : ℕ → (ℕ → Slot) → (p v : ℕ) → Bool
has_version S t p v = ltb (lowest_slot S t p v) S

-- a record whose version is above what stands in `best`
unfoldable pub above : Slot → Record → Bool
above None r = true
above (Some best) r = ltb best.v r.v

-- a record of page p above `best`
unfoldable pub better : ℕ → Slot → Record → Bool
better p best r = of_page p r && above best r

-- a slot where it holds a record of page p above `best`, else `best`
unfoldable pub raised : ℕ → (best slot : Slot) → Slot
raised p best slot = cond (holds (better p best) slot) slot best

-- the highest record of page p in the slots below n, as a slot; blank where there is none
unfoldable pub highest : ℕ → (ℕ → Slot) → ℕ → Slot
highest zero t p = None
highest (suc n) t p = raised p (highest n t p) (t n)

-- the version in a slot; 0 where it is blank
unfoldable pub version_in : Slot → ℕ
version_in None = 0
version_in (Some r) = r.v

-- "hv(p) is the highest version of p in the table."
unfoldable pub highest_version_of : ℕ → (ℕ → Slot) → ℕ → ℕ
highest_version_of S t p = version_in (highest S t p)

-- the highest version that a slot mentions for page p: its v where p is its page, its nv where np is; 0 where it does not
unfoldable pub mentioned : ℕ → Slot → ℕ
mentioned p None = 0
mentioned p (Some r) = max (cond (eqb r.p p) r.v 0) (cond (eqb r.np p) r.nv 0)

-- "Used = the highest of all v with that p and all nv with that np."
unfoldable pub used_of : ℕ → (ℕ → Slot) → ℕ → ℕ
used_of S t p = max_below S (λ k. mentioned p (t k))

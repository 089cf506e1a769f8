-- Twins, document 02, wish 1: "So a record may now have twins, equal in all words and bytes."
use Rattle.std.specs.Prelude.{ℕ, List, Bool, false, not, ◌&&◌, eqb, get_or}
use Rattle.bounded.specs.Below.{all_below, some_below}
use Rattle.record.specs.declared.Record.{Record}
use Rattle.record.specs.Slot.{Slot}
use Rattle.std.specs.Prelude.{None, Some}
use Rattle.record.specs.Slot.{holds, slot_at, bytes_at}
use Rattle.record.specs.Flash.{Flash}
use Rattle.table.specs.Table.{clash}

-- equal "in all words"
unfoldable pub same_words : (a b : Record) → Bool
same_words a b = eqb a.p b.p && (eqb a.v b.v && (eqb a.c b.c && (eqb a.np b.np && eqb a.nv b.nv)))

-- both slots hold records, equal in all words: a blank slot is no twin
unfoldable pub same_record : Slot → Slot → Bool
same_record a None = false
same_record a (Some r) = holds (same_words r) a

-- "… and bytes", w of them
unfoldable pub has_same_bytes : ℕ → (a b : List ℕ) → Bool
has_same_bytes w a b = all_below w (λ i. eqb (get_or a i 0) (get_or b i 0))

-- slots j and k of the flash are twins, for contents of w bytes a slot
unfoldable pub twins : ℕ → Flash → (j k : ℕ) → Bool
twins w f j k = same_record (slot_at f.words j) (slot_at f.words k) && has_same_bytes w (bytes_at w f.contents j) (bytes_at w f.contents k)

-- "for equal page and version recovery gives 3 only if the two are no twins": two of the S slots are so
unfoldable pub some_conflict : ℕ → (ℕ → Slot) → (twin : ℕ → ℕ → Bool) → Bool
some_conflict S t twin = some_below S (λ k. some_below k (λ j. clash (t j) (t k) && not (twin j k)))

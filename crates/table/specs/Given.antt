-- Tables given by their records: as document 01's cases give them, and with one record for each page.
use Rattle.std.specs.Prelude.{ℕ, List, [], ◌∷◌, cond, ltb, get_or}
use Rattle.bounded.specs.Parts.{join_parts}
use Rattle.sizes.specs.declared.Layout.{Layout}
use Rattle.record.specs.declared.Record.{Record}
use Rattle.record.specs.Slot.{encoded, words_of, blank_record, formatted_record}

-- the record (p, v, c, np, nv)
unfoldable pub given : (p v c np nv : ℕ) → Record
given p v c np nv = record { p = p; v = v; c = c; np = np; nv = nv }

-- "F = the formatted records", of P pages
unfoldable pub formatted_records : ℕ → List Record
formatted_records P = join_parts P (λ p. formatted_record p ∷ [])

-- the slot words of S slots that hold these records from slot 0 on; the other slots are blank
unfoldable pub table_of : ℕ → List Record → List ℕ
table_of S records = join_parts S (λ k. words_of (get_or records k blank_record))

-- the slot words of S slots of which slot k below P holds record k, and the others are blank
unfoldable pub one_each : Layout → (P S : ℕ) → (ℕ → Record) → List ℕ
one_each layout P S records = join_parts S (λ k. encoded layout (cond (ltb k P) (records k) blank_record))

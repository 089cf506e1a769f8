-- Twins as facts: both slots hold one record, with the same bytes.
use Rattle.std.specs.Prelude.{ℕ, ◌≡◌}
use Rattle.record.specs.declared.Record.{Record}
use Rattle.std.specs.Prelude.{Some}
use Rattle.record.specs.Slot.{slot_at, bytes_at}
use Rattle.record.specs.Flash.{Flash}

-- "twins, equal in all words and bytes"
abbrev pub Twins : (w : ℕ) (f : Flash) (j k : ℕ) → Type 0
Twins w f j k = (r : Record) × (slot_at f.words j ≡ Some r) × (slot_at f.words k ≡ Some r) × (bytes_at w f.contents j ≡ bytes_at w f.contents k)

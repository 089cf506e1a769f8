-- Copies of records into blank slots, document 02, wish 1: what a list of copy steps leaves, slot by slot.
use Rattle.std.specs.Prelude.{ℕ, ◌<◌, ◌≡◌}
use mathlib.Core.List.{List, Memᴰ}
use Rattle.bounded.specs.Members.{Rises}
use Rattle.sizes.specs.declared.Layout.TheVariants.{FiveWords}
use Rattle.record.specs.declared.Record.{Record}
use Rattle.std.specs.Prelude.{None, Some}
use Rattle.record.specs.Slot.{slot_at}
use Rattle.record.specs.SlotLaws.{Storable}
use Rattle.record.specs.Flash.{Flash}
use Rattle.record.specs.FlashLaws.{SizedIn, SameSlot}

-- slots k below S that hold a record which may be stored
pub record Source (S : ℕ) (f : Flash) (k : ℕ) : Type 0 where
  pub source_below : k < S
  pub held : Record
  pub holds_it : slot_at f.words k ≡ Some held
  pub storable : Storable FiveWords held

module _ (w S : ℕ) (f : Flash) (sized : SizedIn FiveWords w S f) where
  -- the flash g, in which the sources are as in f and the targets, rising from b on, are blank: the copies of f's records may be stored
  pub record Ready (g : Flash) (b : ℕ) (from to : List ℕ) : Type 0 where
    pub size : SizedIn FiveWords w S g
    pub sources : (k : ℕ) → Memᴰ k from → Source S f k
    pub unaltered : (k : ℕ) → Memᴰ k from → SameSlot FiveWords w f g k
    pub blank : (j : ℕ) → Memᴰ j to → slot_at g.words j ≡ None
    pub rises : Rises b S to

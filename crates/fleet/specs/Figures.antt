-- What is counted of a volume: document 02, wish 13, "pages set, obsolete, exposed and needed-straddler records".
use Rattle.std.specs.Prelude.{ℕ, List, Bool, cond, ◌&&◌, eqb, length}
use Rattle.bounded.specs.Limits.{Widths}
use Rattle.bounded.specs.Below.{list_below}
use Rattle.sizes.specs.declared.Sizes.{Sizes}
use Rattle.record.specs.declared.Record.{Record}
use Rattle.record.specs.Slot.{Slot}
use Rattle.record.specs.Slot.{slot_at, holds}
use Rattle.record.specs.Flash.{Flash}
use Rattle.state.specs.declared.PageState.{PageState}
use Rattle.state.specs.State.{state_at, is_set}
use Rattle.rules.specs.Permission.{is_obsolete, is_exposed, is_needed, untwinned}
use Rattle.upkeep.specs.Doubtful.{recovery_of}
use Rattle.fleet.specs.declared.Figures.{Figures}
use Rattle.fleet.specs.Entry.{Entry, Counted, Refused}

-- "needed-straddler records": "An obsolete K is needed if …"
unfoldable pub is_needed_straddler : (S : ℕ) → (ℕ → Slot) → (ℕ → PageState) → Record → Bool
is_needed_straddler S t st K = is_obsolete st K && is_needed (untwinned S t st) K

-- the slots that hold such a record; each of some twins is one
unfoldable pub slots_with : (S : ℕ) → (ℕ → Slot) → (Record → Bool) → List ℕ
slots_with S t f = list_below S (λ k. holds f (t k))

-- the pages that are set: wish 3's test
unfoldable pub set_pages : (P : ℕ) → (ℕ → PageState) → List ℕ
set_pages P st = list_below P (λ p. is_set (st p))

unfoldable pub figures_of : (P S : ℕ) → (ℕ → Slot) → (ℕ → PageState) → Figures
figures_of P S t st =
    record {
      pages = length (set_pages P st);
      obsolete = length (slots_with S t (is_obsolete st));
      exposed = length (slots_with S t (is_exposed st));
      needed = length (slots_with S t (is_needed_straddler S t st));
    }

-- What a volume comes to: the figures by the state that recovery gives; "A volume that doesn't recover prints its refusal".
unfoldable pub entry_of : Widths → Sizes → Flash → Entry
entry_of widths z f =
    let o = recovery_of widths z f in
    cond (eqb o.answer 0) (Counted (figures_of z.pages z.slots (slot_at f.words) (state_at o.left))) (Refused o.answer)

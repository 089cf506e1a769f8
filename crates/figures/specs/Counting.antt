-- What is counted of the slots below a number.
use Rattle.std.specs.Prelude.{ℕ, length}
use Rattle.record.specs.Slot.{Slot}
use Rattle.state.specs.declared.PageState.{PageState}
use Rattle.rules.specs.Permission.{is_obsolete}
use Rattle.fleet.specs.Figures.{is_needed_straddler, slots_with}
use Rattle.figures.specs.declared.Obsolete.{Obsolete}

-- the slots below n that hold an obsolete record, and those that hold a needed straddler, as counts
unfoldable pub obsolete_below : (S : ℕ) (t : ℕ → Slot) (st : ℕ → PageState) → ℕ → Obsolete
obsolete_below S t st n = record { all = length (slots_with n t (is_obsolete st)); needed = length (slots_with n t (is_needed_straddler S t st)) }

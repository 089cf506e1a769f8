-- Laws of a line with its cuts: what a write, an erase and any other line leave, and which cuts they count.
use Rattle.std.specs.Prelude.{ℕ, ◌*◌, ◌≡◌, refl, Bool, true, false, Result, Ok, Err, is_err, eqb, length, set, replicate}
use Rattle.std.proofs.Common.{add-zero}
use mathlib.Core.List.{List, [], ◌∷◌}
use types.Run.{OneOf, miss}
use denote.Enum.Declared.{tag_of}
use borrow.Author.Tests.{ne_eqb}
use Rattle.bounded.specs.Limits.{Widths}
use Rattle.bounded.specs.Choice.{never}
use Rattle.outcome.specs.declared.Refusal.{Refusal}
use Rattle.outcome.specs.Reply.{outcome_of}
use Rattle.outcome.specs.Result.{number_of, number_positive, outcome_by, ends}
use Rattle.sizes.specs.declared.Sizes.{Sizes}
use Rattle.line.specs.declared.Line.{Line}
use Rattle.line.specs.declared.Line.TheVariants as lines
use Rattle.line.specs.Line.{Said, said}
use Rattle.line.specs.contracts.Line.{the_type}
use Rattle.record.specs.Flash.{Flash}
use Rattle.state.specs.State.{state_at}
use Rattle.rules.specs.Volume.{Volume}
use Rattle.rules.specs.Write.{write_outcome}
use Rattle.dispatch.specs.Dispatch.{lost, line_outcome}
use Rattle.atomicity.specs.Family.{back_pointer}
use Rattle.everywhere.specs.Cuts.{wiped_state, comes_back, sames, differs, erase_outcome_by}
use Rattle.ledger.specs.Ledger.{filled, settled_entered, settled_kept}
use Rattle.cutpoint.specs.declared.Tally.{Tally}
use Rattle.cutpoint.specs.Judged.{tallied, erase_cuts}
use Rattle.recorded.specs.Desk.{Desk, desk, settled_desk, wrote_desk, write_desk, desk_back, write_cuts, erase_desk, cuts_of_erase, other_desk, desk_after, desk_cuts}

-- no cut counted
pub none_counted : (t : Tally) → t ≡ tallied t []
unfolding tallied sames differs
none_counted t = rw (add-zero t.same, add-zero t.differ)

-- a lost state of 4×P words
pub lost_wiped : (sizes : Sizes) (state : List ℕ) → length state ≡ 4 * sizes.pages → lost state ≡ wiped_state sizes
unfolding lost wiped_state
lost_wiped sizes state e = rw e

-- ---- a write, and what it leaves

module _ (widths : Widths) (sizes : Sizes) (d : Desk) (page slot fill : ℕ) (v : Volume) (tally : Tally) where
  -- refused, it leaves the ledger as it was, and there is no cut
  pub write_refused :
      (refusal : Refusal) → outcome_of (number_of refusal) 0 v ≡ write_outcome widths sizes d.volume page slot (replicate sizes.width fill)
      → (desk v d.entered d.kept ≡ write_desk widths sizes d page slot fill) × (tally ≡ tallied tally (write_cuts widths sizes d page slot fill))
  unfolding write_desk wrote_desk write_cuts
  write_refused refusal says = rw (← says, ne_eqb (number_of refusal) 0 (number_positive refusal)) (refl, none_counted tally)

  -- accepted, its page's fill is entered and the ledger settled, and what comes back of its flash is its one cut
  pub write_done :
      (second : ℕ) → outcome_of 0 second v ≡ write_outcome widths sizes d.volume page slot (replicate sizes.width fill)
      → {now entered kept : List ℕ} → now ≡ set d.entered page fill
      → (entered ≡ settled_entered sizes.pages (state_at v.state) now) × (kept ≡ settled_kept sizes.pages (eqb second 1) (state_at v.state) now d.kept)
      → (state : List ℕ) → length state ≡ 4 * sizes.pages
      → {b : Bool} → b ≡ comes_back back_pointer widths sizes (record { flash = v.flash; state = lost state }) (filled sizes.width kept)
      → {t : Tally} → t ≡ tallied tally (b ∷ [])
      → (desk v entered kept ≡ write_desk widths sizes d page slot fill) × (t ≡ tallied tally (write_cuts widths sizes d page slot fill))
  unfolding write_desk wrote_desk settled_desk write_cuts desk_back
  write_done second says is_now settled state size e q =
      rw (← says, ← is_now, ← settled.0, ← settled.1, ← lost_wiped sizes state size, ← e) (refl, q)

-- the cuts in an erase, each made on a lost state
pub cuts_wiped :
    (widths : Widths) (sizes : Sizes) (f : Flash) (kept slots state : List ℕ) (tally : Tally) {t : Tally} → length state ≡ 4 * sizes.pages
    → t ≡ tallied tally (erase_cuts widths sizes f (lost state) (filled sizes.width kept) slots) → t ≡ tallied tally (erase_cuts widths sizes f (wiped_state sizes) (filled sizes.width kept) slots)
cuts_wiped widths sizes f kept slots state tally size q = rw (← lost_wiped sizes state size) q

-- ---- an erase, and what it leaves

module _ (trial : Bool) (widths : Widths) (sizes : Sizes) (v : Volume) (kept slots : List ℕ) (left : Flash) (tally : Tally) where
  -- the flash that it leaves, and a tally of its cuts, whatever is entered
  abbrev EraseGives : Tally → Type 0
  EraseGives t = (left ≡ (erase_outcome_by trial widths sizes v slots).left) × ((entered : List ℕ) → t ≡ tallied tally (cuts_of_erase widths sizes trial (desk v entered kept) slots))

  -- refused, it has no cut
  pub erase_refused : (r : Result (Unit {0}) Refusal) → ends r left ≡ erase_outcome_by trial widths sizes v slots → is_err r ≡ true → EraseGives tally
  unfolding cuts_of_erase
  erase_refused (Ok x) says e = absurd (never e refl)
  erase_refused (Err refusal) says e = rw (← says, ne_eqb (number_of refusal) 0 (number_positive refusal)) (refl, λ (entered : List ℕ). none_counted tally)

  -- accepted, its cuts are those of a copy of the flash
  pub erase_done :
      (r : Result (Unit {0}) Refusal) → ends r left ≡ erase_outcome_by trial widths sizes v slots → is_err r ≡ false → (copy : Flash) → copy ≡ v.flash
      → {t : Tally} → t ≡ tallied tally (erase_cuts widths sizes copy (wiped_state sizes) (filled sizes.width kept) slots) → EraseGives t
  unfolding cuts_of_erase
  erase_done (Ok x) says e copy same q = rw (← says, ← same) (refl, λ (entered : List ℕ). q)
  erase_done (Err refusal) says e copy same q = absurd (never refl e)

-- ---- any line

module _ (widths : Widths) (sizes : Sizes) (d : Desk) where
  -- an erase leaves the state and the ledger as they were
  pub erase_after : (trial : Bool) (slots : List ℕ) (f : Flash) → f ≡ (erase_outcome_by trial widths sizes d.volume slots).left → desk (record { flash = f; state = d.volume.state }) d.entered d.kept ≡ erase_desk widths sizes trial d slots
  unfolding erase_desk
  erase_after trial slots f e = rw e

  -- a line of which the ledger alone is settled
  pub other_done :
      (says : Said) (r : Result ℕ Refusal) (v : Volume) (entered kept : List ℕ) → outcome_by 0 r v ≡ line_outcome widths sizes d.volume says
      → (entered ≡ settled_entered sizes.pages (state_at v.state) d.entered) × (kept ≡ settled_kept sizes.pages false (state_at v.state) d.entered d.kept)
      → desk v entered kept ≡ other_desk widths sizes d says
  unfolding other_desk settled_desk
  other_done says (Ok second) v entered kept e settled = rw (← e, ← settled.0, ← settled.1)
  other_done says (Err refusal) v entered kept e settled = rw (← e, ← settled.0, ← settled.1)

  -- it is one that is neither a write nor an erase, and has no cut
  pub other_after :
      (trial : Bool) (line : Line) (list : List ℕ) (t : Tally) → OneOf (0 ∷ 1 ∷ 3 ∷ 5 ∷ 6 ∷ 7 ∷ []) (tag_of the_type line) → (after : Desk) → after ≡ other_desk widths sizes d (said line list)
      → (after ≡ desk_after widths sizes trial d (said line list)) × (t ≡ tallied t (desk_cuts widths sizes trial d (said line list)))
  unfolding said desk_after desk_cuts
  other_after trial (lines.Format own) list t k after e = (e, none_counted t)
  other_after trial (lines.Launch count) list t k after e = (e, none_counted t)
  other_after trial (lines.Write page slot fill) list t k after e = absurd (miss (0 ∷ 1 ∷ 3 ∷ 5 ∷ 6 ∷ 7 ∷ []) 2 tt k)
  other_after trial (lines.Withdraw page) list t k after e = (e, none_counted t)
  other_after trial (lines.Erase count) list t k after e = absurd (miss (0 ∷ 1 ∷ 3 ∷ 5 ∷ 6 ∷ 7 ∷ []) 4 tt k)
  other_after trial lines.Recover list t k after e = (e, none_counted t)
  other_after trial lines.Cut list t k after e = (e, none_counted t)
  other_after trial lines.List list t k after e = (e, none_counted t)

-- The first volume of some input, and those behind it.
use Rattle.std.specs.Prelude.{ℕ, suc, ◌≤◌, ◌<◌, ◌≡◌, List, ◌∷◌, true, false, cond, length, Result}
use Rattle.std.proofs.Common.{arith}
use Rattle.std.proofs.Math.ListN.{drop}
use Rattle.std.proofs.Math.Seq.{drop-length}
use Rattle.bounded.specs.Limits.{Widths, two_widths}
use Rattle.bounded.specs.Choice.{on_test}
use Rattle.sizes.specs.declared.Sizes.{Sizes}
use Rattle.outcome.specs.declared.Refusal.{Refusal}
use Rattle.fleet.specs.declared.Figures.{Figures}
use Rattle.fleet.specs.Entry.{Entry, comes_to, Refused}
use Rattle.fleet.specs.Figures.{entry_of}
use Rattle.fleet.specs.Input.{sizes_at, volume_length, flash_at, is_whole, entries_of}
use Rattle.fleet.proofs.InputLaws.{whole_facts, entries_whole, entries_broken, reading_shown}
use Rattle.fleet.specs.PageLaws.{SmallEntry}
use Rattle.fleet.proofs.PageLaws.{entry_small}
use Rattle.van.specs.declared.input.First.{First}

-- what it comes to, and how far to go on
pub record Reading : Type 0 where
  pub entry : Entry
  pub length : ℕ

-- what is given back that says so
abbrev pub reads : First → Reading
reads first = record { entry = comes_to first.entry; length = first.length }

-- … to the end of the input, where it "ends the reading"
unfoldable pub first_of : Widths → List ℕ → Reading
first_of widths input =
    record {
      entry = cond (is_whole widths input) (entry_of widths (sizes_at input) (flash_at input)) (Refused 1);
      length = cond (is_whole widths input) (volume_length (sizes_at input)) (length input);
    }

module _ (input : List ℕ) where
  pub first_cut : is_whole two_widths input ≡ false → record { entry = Refused 1; length = length input } ≡ first_of two_widths input
  unfolding first_of
  first_cut e = rw e

  pub first_whole :
      is_whole two_widths input ≡ true → (entry : Result Figures Refusal) (z : Sizes) (n : ℕ) → comes_to entry ≡ entry_of two_widths (sizes_at input) (flash_at input) → z ≡ sizes_at input → n ≡ volume_length z
      → reads (record { entry = entry; length = n }) ≡ first_of two_widths input
  unfolding first_of
  first_whole e entry z n a b l = rw (e, a, l, b)

  -- no more bytes than there are
  pub first_within : (first_of two_widths input).length ≤ length input
  unfolding first_of
  first_within = on_test (is_whole two_widths input) (λ e. rw e (whole_facts two_widths input e).all_there) (λ e. rw e (omega arith))

  pub first_small : SmallEntry (first_of two_widths input).entry
  unfolding first_of
  first_small =
      on_test (is_whole two_widths input)
      (λ e. rw e (entry_small two_widths (sizes_at input) (flash_at input) (whole_facts two_widths input e).sizes_ok_lem))
      (λ e. rw e (omega arith))

-- ---- the volumes, one after the other

module _ (widths : Widths) (n : ℕ) where
  -- the one in front, and those behind it
  pub entries_next : (input : List ℕ) → 0 < length input → entries_of widths (suc n) input ≡ (first_of widths input).entry ∷ entries_of widths n (drop (first_of widths input).length input)
  unfolding first_of
  entries_next input some =
      on_test (is_whole widths input)
      (λ e. rw (entries_whole widths n input e, e))
      (λ e. rw (entries_broken widths n input some e, e, drop-length input, (reading_shown widths).ends n))

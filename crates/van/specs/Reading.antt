-- Laws of the volume at the front of the input, as it is read.
use Rattle.std.specs.Prelude.{ℕ, ◌+◌, ◌*◌, ◌-◌, ◌≤◌, ◌≡◌, List, [], ◌∷◌, true, false, not, leb, ltb, length, get_or, take, drop}
use Rattle.std.specs.Int.{w32, from_le_bytes}
use Rattle.std.proofs.Common.{arith, sym, ap, ◌∙◌, true≢false}
use borrow.Author.Tests.{lt-ltb, le-ltb, le-leb, lt-leb}
use Rattle.bounded.specs.Limits.{two_widths}
use Rattle.bounded.specs.Choice.{on_lt}
use Rattle.bounded.specs.PartsLaws.{part_at}
use Rattle.bounded.specs.Entries.{stored, stored_length, stored_at}
use Rattle.bounded.specs.Tabulate.{tabulate, tabulated}
use Rattle.sizes.specs.declared.Sizes.{Sizes}
use Rattle.record.specs.Flash.{flash}
use Rattle.fleet.specs.Input.{word_of, word_at, sizes_at, table_end, volume_length, flash_at, sizes_taken, is_whole}
use Rattle.fleet.specs.InputLaws.{longest_volume}
use Rattle.fleet.proofs.InputLaws.{broken_sizes, volume_most, announced_right}
use Rattle.fleet.specs.Shown.{announced_by}

-- ---- words

-- the four bytes of a word
pub word_is :
    (bytes : List ℕ) (i : ℕ)
    → word_at bytes i ≡ get_or bytes (4 * i) 0 + 256 * (get_or bytes (4 * i + 1) 0 + 256 * (get_or bytes (4 * i + 2) 0 + 256 * get_or bytes (4 * i + 3) 0))
unfolding word_at word_of
word_is bytes i =
    let e : 4 * i + 0 ≡ 4 * i = omega arith in
    rw (part_at 4 i bytes 0 0 (omega arith), part_at 4 i bytes 1 0 (omega arith), part_at 4 i bytes 2 0 (omega arith), part_at 4 i bytes 3 0 (omega arith), e)

-- as they are taken together, "lowest byte first"
pub word_from :
    (bytes : List ℕ) (i : ℕ)
    → from_le_bytes w32 (get_or bytes (4 * i) 0 ∷ get_or bytes (4 * i + 1) 0 ∷ get_or bytes (4 * i + 2) 0 ∷ get_or bytes (4 * i + 3) 0 ∷ []) ≡ word_at bytes i
word_from bytes i = let e = word_is bytes i in omega arith

-- words that are all stored are their table
pub all_stored : (f : ℕ → ℕ) (words : List ℕ) (n : ℕ) → n ≡ length words → stored f n words ≡ tabulate (length words) f
all_stored f words n e =
    tabulated (length words) f (stored f n words) (stored_length f words n) (λ i h. stored_at f words n (omega arith) i (omega arith))

-- ---- sizes

pub not_above : (s most : ℕ) → leb s most ≡ not (ltb most s)
not_above s most = on_lt most s (λ h. rw (lt-leb s most h, lt-ltb most s h)) (λ h. rw (le-leb s most h, le-ltb most s h))

module _ (input : List ℕ) (z : Sizes) (e : z ≡ sizes_at input) (header : 12 ≤ length input) where
  pub wrong_sizes_lem : sizes_taken two_widths z ≡ false → false ≡ is_whole two_widths input
  wrong_sizes_lem h = sym (broken_sizes two_widths input header (rw e at h))

  pub right_sizes : sizes_taken two_widths z ≡ true → (n : ℕ) → n ≡ volume_length z → leb n (length input) ≡ is_whole two_widths input
  unfolding is_whole
  right_sizes h n l = rw (← e, le-leb 12 (length input) header, h, l)

-- how many bytes a volume has, by its sizes
module _ (input : List ℕ) (z : Sizes) (e : z ≡ sizes_at input) where
  pub announces_none : sizes_taken two_widths z ≡ false → ¬ (sizes_taken two_widths (sizes_at input) ≡ true)
  announces_none h t = true≢false (sym t ∙ rw e at h)

  pub announces_all :
      sizes_taken two_widths z ≡ true → (n : ℕ) → n ≡ volume_length z
      → ((sizes_taken two_widths (sizes_at input) ≡ true) × (n ≡ announced_by two_widths input)) × ((12 ≤ n) × (n ≤ longest_volume))
  announces_all h n l =
      let m = volume_most z h in
      let t = rw e at h in
      ((t, l ∙ ap volume_length e ∙ sym (announced_right input t)), (omega arith, omega arith))

-- ---- a volume that is whole

-- its words and its contents, from where they stand
pub flash_is :
    (input words : List ℕ) (z : Sizes) (n start end : ℕ) → z ≡ sizes_at input → n ≡ 5 * (sizes_at input).slots → words ≡ tabulate n (λ i. word_at input (3 + i)) → start ≡ table_end z → end ≡ volume_length z
    → flash words (take (end - start) (drop start input)) ≡ flash_at input
unfolding flash_at volume_length
flash_is input words z n start end e m w s l =
    let k : end - start ≡ z.width * z.slots = omega arith in
    rw (k, w, m, s, e)

-- What is still to be printed, from a place of the input on: what the loop over the volumes rests on.
use Prim.Native.Nat.{ℕ, suc, ◌+◌, ◌-◌, ◌≤◌, ◌<◌}
use native.Mathlib.Omega.{arith}
use Rattle.std.proofs.Math.Numerals.{add-one}
use Rattle.std.specs.Prelude.{◌≡◌, List, [], ◌∷◌, ◌++◌, true, false, eqb, length, take, drop}
use Rattle.std.proofs.Common.{sym, ap, subst, length-drop, take_all}
use borrow.Author.Tests.{eqb-true, eqb-false}
use Rattle.bounded.specs.Limits.{two_widths}
use Rattle.fleet.specs.Entry.{comes_to}
use Rattle.fleet.specs.Input.{entries_of}
use Rattle.fleet.proofs.InputLaws.{reading_shown}
use Rattle.fleet.specs.Page.{volume_line, van_page}
use Rattle.fleet.specs.PageLaws.{SmallEntry}
use Rattle.van.specs.declared.input.First.{First}
use Rattle.van.specs.declared.tally.Tally.{Tally}
use Rattle.van.specs.Tally.{none_yet, tallied_with, end_text}
use Rattle.van.specs.First.{Reading, reads, first_of, first_within, first_small, entries_next}
use Rattle.van.specs.PageFrom.{page_from, page_is}

-- the lines of the volumes that are left, of which the first has this number, and the two behind them
unfoldable pub rest_from : Tally → (number : ℕ) → (rest : List ℕ) → List ℕ
rest_from t number rest = page_from t number (entries_of two_widths (33 - number) rest)

pub rest_all : (input : List ℕ) → van_page two_widths input ≡ rest_from none_yet 1 input
unfolding rest_from
rest_all input = page_is two_widths input

module _ (t : Tally) (number : ℕ) where
  -- "The input may end before any volume"
  pub rest_ends : (rest : List ℕ) → eqb (length rest) 0 ≡ true → rest_from t number rest ≡ end_text t
  unfolding rest_from page_from
  rest_ends [] h = rw ((reading_shown two_widths).ends (33 - number))
  rest_ends (b ∷ rest) h = let z = eqb-true (length (b ∷ rest)) 0 h in absurd (omega arith)

  -- "a 33rd is not read"
  pub rest_many : (rest : List ℕ) → 32 < number → rest_from t number rest ≡ end_text t
  unfolding rest_from page_from entries_of
  rest_many rest h = let e : 33 - number ≡ 0 = omega arith in rw e

  module _ (rest : List ℕ) (first : First) (e : reads first ≡ first_of two_widths rest) where
    -- the volume in front is there, and its figures are small
    pub length_inside : first.length ≤ length rest
    length_inside =
        let h = first_within rest in
        let q = ap (λ (f : Reading). f.length) e in
        omega arith

    pub entry_small : SmallEntry (comes_to first.entry)
    entry_small = subst (λ (f : Reading). SmallEntry f.entry) (sym e) (first_small rest)

    -- its line, and what is still to be printed behind it
    pub rest_next :
        number ≤ 32 → eqb (length rest) 0 ≡ false
        → (volume_line number (comes_to first.entry) ++ (10 ∷ [])) ++ rest_from (tallied_with t (comes_to first.entry)) (number + 1) (take (length rest - first.length) (drop first.length rest)) ≡ rest_from t number rest
    unfolding rest_from page_from
    rest_next h some =
        let behind = take_all (length rest - first.length) (drop first.length rest) (let l = length-drop first.length rest in omega arith) in
        let n : 33 - number ≡ suc (33 - (number + 1)) = omega arith in
        let entry = ap (λ (f : Reading). f.entry) e in
        let length_is = ap (λ (f : Reading). f.length) e in
        let d = eqb-false (length rest) 0 some in
        rw (behind, entry, length_is, n, entries_next two_widths (33 - (number + 1)) rest (omega arith), add-one number)

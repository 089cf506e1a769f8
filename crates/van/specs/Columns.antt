-- Laws of the columns of a line, as they are put.
use Rattle.std.specs.Prelude.{ℕ, zero, suc, ◌/◌, ◌%◌, ◌<◌, ◌≡◌, refl, List, [], ◌∷◌, ◌++◌, length, Option, None, Some}
use Rattle.std.specs.Option.{SomeIff, unwrap_or}
use Rattle.std.proofs.Common.{arith, sym, ◌∙◌, append_assoc}
use Rattle.text.specs.Print.{shown, added, decimal}
use Rattle.text.specs.PrintLaws.{decimal_room, all_put}
use Rattle.fleet.specs.Page.{mean_whole, mean_remainder, blanks, column, mean_line}

-- ---- the digits of a number

-- put where there is room for eleven, they end at the place that is their number
pub digits_counted : (zeros left : List ℕ) (r n : ℕ) → length zeros ≡ 11 → length left ≡ length zeros → shown left r ≡ added zeros 0 (decimal n) → r ≡ length (decimal n)
digits_counted zeros left r n e l h = (all_put zeros left (decimal n) r (let m = decimal_room n in omega arith) l h).1

-- ---- the mean

pub whole_none : (total n : ℕ) → n ≡ 0 → 0 ≡ mean_whole total n
unfolding mean_whole
whole_none total n e = rw e

pub whole_some : (total n : ℕ) → ¬ (n ≡ 0) → total / n ≡ mean_whole total n
unfolding mean_whole
whole_some total zero h = absurd (h refl)
whole_some total (suc n) h = refl

pub remainder_none : (total n : ℕ) → n ≡ 0 → 0 ≡ mean_remainder total n
unfolding mean_remainder
remainder_none total n e = rw e

pub remainder_some : (total n : ℕ) → ¬ (n ≡ 0) → total % n ≡ mean_remainder total n
unfolding mean_remainder
remainder_some total zero h = absurd (h refl)
remainder_some total (suc n) h = refl

-- … as a quotient and a remainder that are there where the divisor is not 0
pub whole_or : (total n : ℕ) (quotient : Option ℕ) → SomeIff quotient (0 < n) (total / n) → unwrap_or quotient 0 ≡ mean_whole total n
whole_or total n None h = whole_none total n (omega (arith, h))
whole_or total n (Some q) h = h.1 ∙ whole_some total n (λ e. omega (arith, h.0))

pub remainder_or : (total n : ℕ) (rest : Option ℕ) → SomeIff rest (0 < n) (total % n) → unwrap_or rest 0 ≡ mean_remainder total n
remainder_or total n None h = remainder_none total n (omega (arith, h))
remainder_or total n (Some r) h = h.1 ∙ remainder_some total n (λ e. omega (arith, h.0))

-- its line, put piece by piece
pub mean_line_lem :
    (total n whole remainder : ℕ) → whole ≡ mean_whole total n → remainder ≡ mean_remainder total n
    → blanks 8 ++ (column 16 whole ++ (column 16 remainder ++ (blanks 32 ++ (10 ∷ [])))) ≡ mean_line total n ++ (10 ∷ [])
unfolding mean_line
mean_line_lem total n whole remainder e f = rw (e, f) (sym (simp append_assoc))

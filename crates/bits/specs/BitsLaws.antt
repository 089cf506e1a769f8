-- A bit is 0 or 1, at most every bit is set, and the outcome of a count.
use Rattle.std.specs.Prelude.{ℕ, zero, suc, refl, [], ◌∷◌, ◌+◌, ◌*◌, ◌/◌, ◌%◌, ◌^◌, ◌≤◌, ◌<◌, ◌≡◌, List, length, get_or, count_ones}
use Rattle.std.proofs.Common.{arith, sym, ap, ap₂, ◌∙◌, add-zero, add-suc, sum_by}
use Rattle.std.proofs.Math.Nat.{div-one, div-div-eq-div-mul, pow-suc, pow-succ'}
use Rattle.std.proofs.lemmas.Nat.{ones_le_self}
use Rattle.std.proofs.lemmas.List.Sums.{sum_by-cons}
use Rattle.bounded.specs.BelowLaws.{sum_cong}
use Rattle.std.specs.Int.Count.{ones_step}
use Rattle.bounded.specs.Limits.{Widths}
use Rattle.bounded.specs.Below.{sum_below}
use Rattle.outcome.specs.OutcomeLaws.{settled_refused, settled_done}
use Rattle.bits.specs.Bits.{bit_at, set_bits, count_answer, count_outcome}

-- "1 means drawn"
pub bit_at_most_one : (bytes : List ℕ) (s : ℕ) → bit_at bytes s ≤ 1
unfolding bit_at
bit_at_most_one bytes s = omega arith

-- the sum of n numbers of at most 1 is at most n
pub sum_of_ones : (f : ℕ → ℕ) (n : ℕ) → ((k : ℕ) → f k ≤ 1) → sum_below n f ≤ n
unfolding sum_below
sum_of_ones f zero h = omega arith
sum_of_ones f (suc n) h = omega (arith, sum_of_ones f n h, h n)

pub set_bits_at_most : (bytes : List ℕ) → set_bits bytes ≤ 8 * length bytes
unfolding set_bits
set_bits_at_most bytes = sum_of_ones (bit_at bytes) (8 * length bytes) (bit_at_most_one bytes)

-- ---- the bits of a byte, as the machine counts them

-- a sum's first number apart, and the first m
sum_first : (n : ℕ) (f : ℕ → ℕ) → sum_below (suc n) f ≡ f 0 + sum_below n (λ i. f (suc i))
unfolding sum_below
sum_first zero f = omega arith
sum_first (suc n) f = let i = sum_first n f in omega arith

sum_join : (m n : ℕ) (f : ℕ → ℕ) → sum_below (m + n) f ≡ sum_below m f + sum_below n (λ i. f (m + i))
unfolding sum_below
sum_join m zero f = rw (add-zero m) (omega arith)
sum_join m (suc n) f = let i = sum_join m n f in rw add-suc (omega arith)

ones_of : (k b : ℕ) → b < 2 ^ k → sum_below k (λ i. b / 2 ^ i % 2) ≡ count_ones b
unfolding sum_below
ones_of zero b h = let l = ones_le_self b in omega arith
ones_of (suc k) b h =
    let half : b / 2 < 2 ^ k = omega (arith, pow-suc 2 k) in
    let lowest : b / 2 ^ 0 % 2 ≡ b % 2 = rw div-one in
    let others : sum_below k (λ i. b / 2 ^ suc i % 2) ≡ sum_below k (λ i. b / 2 / 2 ^ i % 2) = sum_cong k (λ i l. rw (pow-succ' 2 i, ← div-div-eq-div-mul b 2 (2 ^ i))) in
    sum_first k (λ i. b / 2 ^ i % 2) ∙ ap₂ ◌+◌ lowest (others ∙ ones_of k (b / 2) half) ∙ sym (ones_step b)

-- the set bits are the bytes', summed
pub set_bits_sum : (bytes : List ℕ) → ((i : ℕ) → get_or bytes i 0 < 256) → sum_by count_ones bytes ≡ set_bits bytes
unfolding set_bits sum_below bit_at
set_bits_sum [] h = refl
set_bits_sum (b ∷ bytes) h =
    let f = bit_at (b ∷ bytes) in
    let n = length bytes in
    let long : 8 * suc n ≡ 8 + 8 * n = omega arith in
    let byte : count_ones b ≡ sum_below 8 f = sym (ones_of 8 b (h 0)) ∙ sum_cong 8 {f = λ i. b / 2 ^ i % 2} {g = f} (λ i l. let d : i / 8 ≡ 0 = omega arith in let m : i % 8 ≡ i = omega arith in rw (d, m)) in
    let others : sum_below (8 * n) (bit_at bytes) ≡ sum_below (8 * n) (λ i. f (8 + i)) = sum_cong (8 * n) (λ i l. let d : (8 + i) / 8 ≡ suc (i / 8) = omega arith in let m : (8 + i) % 8 ≡ i % 8 = omega arith in rw (d, m)) in
    sum_by-cons count_ones b bytes
    ∙ ap₂ ◌+◌ byte (set_bits_sum bytes (λ i. h (suc i)) ∙ others)
    ∙ sym (sum_join 8 (8 * n) f)
    ∙ ap (λ (k : ℕ). sum_below k f) (sym long)

-- Refused, the drawn count is 0; done, it is the count of set bits.
pub count_refused : (widths : Widths) (bytes : List ℕ) → ¬ (count_answer widths bytes ≡ 0) → count_outcome widths bytes ≡ record { answer = count_answer widths bytes; second = 0; left = tt }
unfolding count_outcome
count_refused widths bytes h = settled_refused (count_answer widths bytes) 0 (set_bits bytes) tt tt h

pub count_done : (widths : Widths) (bytes : List ℕ) → count_answer widths bytes ≡ 0 → count_outcome widths bytes ≡ record { answer = 0; second = set_bits bytes; left = tt }
unfolding count_outcome
count_done widths bytes e = settled_done (count_answer widths bytes) 0 (set_bits bytes) tt tt e

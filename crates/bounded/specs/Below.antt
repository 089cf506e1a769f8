-- "Each", "there is", "the sum", "the highest", "the lowest", "the first", "the last" and "those that" over the numbers below n.
-- A counting loop's invariant is the definition at its counter.
use Rattle.std.specs.Prelude.{ℕ, zero, suc, ◌+◌, min, max, List, [], ◌∷◌, ◌++◌, Bool, true, false, cond, ◌&&◌, ◌||◌, ltb}

-- each number below n passes
unfoldable pub all_below : ℕ → (ℕ → Bool) → Bool
all_below zero f = true
all_below (suc n) f = all_below n f && f n

-- some number below n passes
unfoldable pub some_below : ℕ → (ℕ → Bool) → Bool
some_below zero f = false
some_below (suc n) f = some_below n f || f n

-- the sum of f over the numbers below n
unfoldable pub sum_below : ℕ → (ℕ → ℕ) → ℕ
sum_below zero f = 0
sum_below (suc n) f = sum_below n f + f n

-- the highest of f over the numbers below n; 0 where n is 0
unfoldable pub max_below : ℕ → (ℕ → ℕ) → ℕ
max_below zero f = 0
max_below (suc n) f = max (max_below n f) (f n)

-- the lowest of b and of f over the numbers below n
unfoldable pub min_below : (b : ℕ) → ℕ → (ℕ → ℕ) → ℕ
min_below b zero f = b
min_below b (suc n) f = min (min_below b n f) (f n)

-- one more number looked at: what was found below n, else n itself where it passes, else n + 1
abbrev pub found_or : ℕ → ℕ → Bool → ℕ
found_or found n passes = cond (ltb found n) found (cond passes n (suc n))

-- the lowest number below n that passes; n where none does
unfoldable pub first_below : ℕ → (ℕ → Bool) → ℕ
first_below zero f = 0
first_below (suc n) f = found_or (first_below n f) n (f n)

-- where the numbers below n that pass end: 1 more than the last of them; 0 where none passes
unfoldable pub end_below : ℕ → (ℕ → Bool) → ℕ
end_below zero f = 0
end_below (suc n) f = cond (f n) (suc n) (end_below n f)

-- the numbers below n that pass, rising
unfoldable pub list_below : ℕ → (ℕ → Bool) → List ℕ
list_below zero f = []
list_below (suc n) f = cond (f n) (list_below n f ++ (n ∷ [])) (list_below n f)

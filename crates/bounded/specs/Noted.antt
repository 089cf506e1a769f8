-- The numbers below n that pass, noted one by one in the first entries of an array: what a loop has noted so far, and what it leaves.
use Rattle.std.specs.Prelude.{ℕ, zero, suc, ◌+◌, ◌≤◌, ◌<◌, ◌≡◌, List, [], ◌∷◌, ◌++◌, Bool, true, false, length, take, set, replicate}
use Rattle.std.proofs.Common.{arith, add-one, sym, ap, ◌∙◌, length-set, take-suc-set, length-take-le}
use Rattle.std.proofs.lemmas.List.{length-replicate}
use Rattle.bounded.specs.Limits.{max_slots}
use Rattle.bounded.specs.Choice.{on_lt}
use Rattle.bounded.specs.Below.{list_below}
use Rattle.bounded.specs.Passing.{list_more, list_stays}
use Rattle.bounded.specs.Members.{list_none}

-- numbers from n on of which none passes add nothing to the list
pub list_goes_on : (f : ℕ → Bool) (n m : ℕ) → n ≤ m → ((k : ℕ) → n ≤ k → k < m → f k ≡ false) → list_below m f ≡ list_below n f
unfolding list_below
list_goes_on f n zero h none = let q : n ≡ 0 = omega arith in ap (λ (x : ℕ). list_below x f) (sym q)
list_goes_on f n (suc m) h none =
    on_lt n (suc m)
    (λ l. rw (list_below, none m (omega arith) (omega arith)) (list_goes_on f n m (omega arith) (λ k a b. none k a (omega arith))))
    (λ l. let q : n ≡ suc m = omega arith in ap (λ (x : ℕ). list_below x f) (sym q))

-- the first `count` entries are the numbers below n that pass
pub record Noted (f : ℕ → Bool) (n : ℕ) (list : List ℕ) (count : ℕ) : Type 0 where
  pub sized : length list ≡ max_slots
  pub counted : count ≤ n
  pub noted : take count list ≡ list_below n f

module _ (f : ℕ → Bool) where
  -- none of them passes
  pub noted_none : (n N : ℕ) → N ≡ max_slots → ((k : ℕ) → k < n → f k ≡ false) → Noted f n (replicate N 0) 0
  noted_none n N e none = record { sized = length-replicate N 0 ∙ e; counted = omega arith; noted = sym (list_none f n none) }

  module _ (n : ℕ) (list : List ℕ) (count : ℕ) (g : Noted f n list count) where
    -- a number more that does not pass,
    pub noted_stays : f n ≡ false → Noted f (n + 1) list count
    noted_stays e = record {
      sized = g.sized;
      counted = let c = g.counted in omega arith;
      noted = g.noted ∙ sym (list_stays f n e);
    }

    -- and one that does
    pub noted_more : n < max_slots → f n ≡ true → Noted f (n + 1) (set list count n) (count + 1)
    noted_more h e = record {
      sized = length-set list count n ∙ g.sized;
      counted = let c = g.counted in omega arith;
      noted =
          ap (λ (c : ℕ). take c (set list count n)) (add-one count)
          ∙ take-suc-set list count n (let c = g.counted in let s = g.sized in omega arith)
          ∙ ap (λ (l : List ℕ). l ++ (n ∷ [])) g.noted
          ∙ sym (list_more f n e);
    }

    -- numbers more, of which none does
    pub noted_on : (m : ℕ) → n ≤ m → ((k : ℕ) → n ≤ k → k < m → f k ≡ false) → Noted f m list count
    noted_on m h none = record {
      sized = g.sized;
      counted = let c = g.counted in omega arith;
      noted = g.noted ∙ sym (list_goes_on f n m h none);
    }

    -- so many pass
    pub noted_length : n ≤ max_slots → length (take count list) ≡ count
    noted_length h = let c = g.counted in let s = g.sized in length-take-le count list (omega arith)

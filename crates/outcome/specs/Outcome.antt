-- How a call answers: conditions tried from the top, and the whole outcome. "After any number but 0 every lent slice is unaltered."
use Rattle.std.specs.Prelude.{ℕ, zero, suc, ◌^◌, ◌/◌, ◌%◌, Bool, true, false}

-- "Conditions are tried from the top …, and the first that is met is returned":
-- the number n where the condition is met, else what the conditions below it give.
infixr 5 ◌⇒◌otherwise◌
abbrev pub ◌⇒◌otherwise◌ : Bool → ℕ → ℕ → ℕ
true ⇒ n otherwise rest = n
false ⇒ n otherwise rest = rest

-- Everything a call gives back: the answer ("the number back"), the second number, and the buffers that it may alter, as it leaves them.
pub record Outcome (B : Type 0) : Type 0 where
  pub answer : ℕ
  pub second : ℕ
  pub left : B

module _ {B : Type 0} where
  -- The outcome of a call with this answer: done with `second` and the buffers as in `after`, where the answer is 0;
  -- else refused, with the refusal's second number and the buffers as in `before`.
  unfoldable pub settled : (answer refused_second second : ℕ) (before after : B) → Outcome B
  settled zero refused_second second before after = record { answer = 0; second = second; left = after }
  settled (suc n) refused_second second before after = record { answer = suc n; second = refused_second; left = before }

  -- "A call's second number … is returned with the first, for C in the upper 32 bits of one 64-bit number":
  -- the outcome that a returned u64 and the buffers at exit say.
  abbrev pub returned : ℕ → B → Outcome B
  returned r left = record { answer = r % 2 ^ 32; second = r / 2 ^ 32; left = left }

-- Laws of refusal chains and outcomes.
use Rattle.std.proofs.Common.{arith, inl, inr}
use Prim.Native.Nat.{ℕ, zero, suc}
use Rattle.std.specs.Prelude.{◌≡◌, ◌⊎◌, Bool, true, false, not}
use Rattle.std.proofs.Math.Path.{refl}
use Rattle.outcome.specs.Outcome.{◌⇒◌otherwise◌, settled}

-- another answer than a condition's is what those below it give
pub past : (b : Bool) (n rest m : ℕ) → ¬ (n ≡ m) → (b ⇒ n otherwise rest) ≡ m → (b ≡ false) × (rest ≡ m)
past true n rest m d e = absurd (d e)
past false n rest m d e = (refl, e)

-- and an answer that those below do not give is the condition's
pub met : (b : Bool) (n rest m : ℕ) → ¬ (rest ≡ m) → (b ⇒ n otherwise rest) ≡ m → b ≡ true
met true n rest m d e = refl
met false n rest m d e = absurd (d e)

-- the same of a condition that is a test's failure
pub past_test : (b : Bool) (n rest m : ℕ) → ¬ (n ≡ m) → (not b ⇒ n otherwise rest) ≡ m → (b ≡ true) × (rest ≡ m)
past_test true n rest m d e = (refl, e)
past_test false n rest m d e = absurd (d e)

pub met_test : (b : Bool) (n rest m : ℕ) → ¬ (rest ≡ m) → (not b ⇒ n otherwise rest) ≡ m → b ≡ false
met_test true n rest m d e = absurd (d e)
met_test false n rest m d e = refl

-- the last condition of a chain is met, or 0 is answered
pub met_or_done : (b : Bool) (n : ℕ) → ((b ⇒ n otherwise 0) ≡ 0) ⊎ ((b ⇒ n otherwise 0) ≡ n)
met_or_done true n = inr refl
met_or_done false n = inl refl

-- where 0 is returned, the condition is not met, and 0 is what those below it give
pub passed : (b : Bool) (n rest : ℕ) → (b ⇒ suc n otherwise rest) ≡ 0 → (b ≡ false) × (rest ≡ 0)
passed b n rest e = past b (suc n) rest 0 (λ z. omega arith) e

-- and a test whose failure returns n has passed
pub held : (b : Bool) (n rest : ℕ) → (not b ⇒ suc n otherwise rest) ≡ 0 → (b ≡ true) × (rest ≡ 0)
held b n rest e = past_test b (suc n) rest 0 (λ z. omega arith) e

module _ {B : Type 0} where
  pub settled_answer : (a r s : ℕ) (before after : B) → (settled a r s before after).answer ≡ a
  unfolding settled
  settled_answer zero r s before after = refl
  settled_answer (suc n) r s before after = refl

  -- A refused call leaves every buffer as it was and gives the refusal's second number.
  pub settled_refused : (a r s : ℕ) (before after : B) → ¬ (a ≡ 0) → settled a r s before after ≡ record { answer = a; second = r; left = before }
  unfolding settled
  settled_refused zero r s before after h = absurd (h refl)
  settled_refused (suc n) r s before after h = refl

  -- An accepted call gives its second number and leaves the buffers as it says.
  pub settled_done : (a r s : ℕ) (before after : B) → a ≡ 0 → settled a r s before after ≡ record { answer = 0; second = s; left = after }
  unfolding settled
  settled_done a r s before after e = rw e

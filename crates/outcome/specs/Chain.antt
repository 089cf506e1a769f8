-- A chain of conditions in two parts: what the first part answers, or, where that is 0, what the second does.
use Rattle.std.specs.Prelude.{ℕ, zero, suc, ◌≡◌, refl, Bool, true, false}
use Rattle.std.proofs.Common.{arith, sym, ap, ◌∙◌}
use Rattle.outcome.specs.Outcome.{◌⇒◌otherwise◌}

unfoldable pub first_of : ℕ → ℕ → ℕ
first_of zero own = own
first_of (suc n) own = suc n

-- the first part refuses
pub first_refuses : (n : ℕ) {first : ℕ} (own : ℕ) → n ≡ first → ¬ (n ≡ 0) → n ≡ first_of first own
unfolding first_of
first_refuses zero own e h = absurd (h refl)
first_refuses (suc n) own e h = ap (λ (x : ℕ). first_of x own) e

-- the first part passes
pub first_passes : (n m : ℕ) {first own : ℕ} → n ≡ first → n ≡ 0 → m ≡ own → m ≡ first_of first own
unfolding first_of
first_passes n m {first} {own} e z h = h ∙ ap (λ (x : ℕ). first_of x own) (sym z ∙ e)

-- where the whole is 0, both parts are
pub both_pass : (n own : ℕ) → first_of n own ≡ 0 → (n ≡ 0) × (own ≡ 0)
unfolding first_of
both_pass zero own e = (refl, e)
both_pass (suc n) own e = absurd (omega arith)

-- a condition in front of a chain in two parts belongs to its first
pub split_front : (b : Bool) (x first own : ℕ) → (b ⇒ suc x otherwise first_of first own) ≡ first_of (b ⇒ suc x otherwise first) own
unfolding first_of
split_front true x first own = refl
split_front false x first own = refl

-- conditions in front of a chain are its first part
pub split_two : (a b : Bool) (x y own : ℕ) → (a ⇒ suc x otherwise b ⇒ suc y otherwise own) ≡ first_of (a ⇒ suc x otherwise b ⇒ suc y otherwise 0) own
unfolding first_of
split_two true b x y own = refl
split_two false true x y own = refl
split_two false false x y own = refl

pub split_three :
    (a b c : Bool) (x y z own : ℕ)
    → (a ⇒ suc x otherwise b ⇒ suc y otherwise c ⇒ suc z otherwise own) ≡ first_of (a ⇒ suc x otherwise b ⇒ suc y otherwise c ⇒ suc z otherwise 0) own
unfolding first_of
split_three true b c x y z own = refl
split_three false true c x y z own = refl
split_three false false true x y z own = refl
split_three false false false x y z own = refl

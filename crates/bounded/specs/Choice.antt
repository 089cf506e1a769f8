-- Tests as facts, and case analysis on numbers: what proofs about Bool tests share.
use Rattle.std.specs.Prelude.{ℕ, ◌≤◌, ◌<◌, ◌≡◌, refl, ◌⊎◌, ◌↔◌, Bool, true, false, not, ◌&&◌, ◌||◌, ltb, eqb}
use Rattle.std.proofs.Common.{arith, sym, ◌∙◌, inl, inr, ltb-true, lt-ltb, eqb-true, eq-eqb}
use Rattle.std.proofs.Math.Decide.{dec_lt, ℕ_discrete}
use Rattle.std.proofs.lemmas.Bool.{false≢true, not-true, not-false}

-- Case analysis: on a < b, on a ≡ b, and on a test.
pub on_lt {ℓ} : {C : Type ℓ} (a b : ℕ) → (a < b → C) → (b ≤ a → C) → C
on_lt a b f g = elim (dec_lt a b) [ yes h ↦ f h | no h ↦ g (omega arith) ]

pub on_eq {ℓ} : {C : Type ℓ} (a b : ℕ) → (a ≡ b → C) → (¬ (a ≡ b) → C) → C
on_eq a b f g = elim (ℕ_discrete a b) [ yes h ↦ f h | no h ↦ g h ]

pub on_test {ℓ} : {C : Type ℓ} (b : Bool) → (b ≡ true → C) → (b ≡ false → C) → C
on_test true f g = f refl
on_test false f g = g refl

-- A test that is neither true nor false.
pub never : {b : Bool} → b ≡ true → b ≡ false → ⊥
never e h = false≢true (sym h ∙ e)

-- Conjunction, disjunction and negation of tests as facts.
pub both : {a b : Bool} → a ≡ true → b ≡ true → (a && b) ≡ true
both {a} {b} e h = rw (e, h)

pub both_left : (a b : Bool) → (a && b) ≡ true → a ≡ true
both_left true b e = refl
both_left false b e = e

pub both_right : (a b : Bool) → (a && b) ≡ true → b ≡ true
both_right true b e = e
both_right false b e = absurd (false≢true e)

pub either_left : {a : Bool} (b : Bool) → a ≡ true → (a || b) ≡ true
either_left b e = rw e

pub either_right : (a : Bool) {b : Bool} → b ≡ true → (a || b) ≡ true
either_right true e = refl
either_right false e = e

pub either : (a b : Bool) → (a || b) ≡ true → (a ≡ true) ⊎ (b ≡ true)
either true b e = inl refl
either false b e = inr e

pub neither_left : (a b : Bool) → (a || b) ≡ false → a ≡ false
neither_left true b e = e
neither_left false b e = refl

pub neither_right : (a b : Bool) → (a || b) ≡ false → b ≡ false
neither_right true b e = absurd (never refl e)
neither_right false b e = e

pub or_false : (b : Bool) → (b || false) ≡ b
or_false true = refl
or_false false = refl

pub and_true : (b : Bool) → (b && true) ≡ b
and_true true = refl
and_true false = refl

pub and_false : (b : Bool) → (b && false) ≡ false
and_false true = refl
and_false false = refl

pub not_yes : {b : Bool} → b ≡ true → not b ≡ false
not_yes e = rw e

pub not_no : {b : Bool} → b ≡ false → not b ≡ true
not_no e = rw e

-- Two tests that are true in the same cases are equal.
pub same_test : (a b : Bool) → (a ≡ true → b ≡ true) → (b ≡ true → a ≡ true) → a ≡ b
same_test true b f g = sym (f refl)
same_test false true f g = g refl
same_test false false f g = refl

-- What a called test answered, where the code goes on by its answer.
pub said_no : {b s : Bool} → b ≡ s → not b ≡ true → s ≡ false
said_no {b} e h = sym e ∙ not-true b h

pub said_yes : {b s : Bool} → b ≡ s → not b ≡ false → s ≡ true
said_yes {b} e h = sym e ∙ not-false b h

pub told : {b s t : Bool} → b ≡ s → b ≡ t → s ≡ t
told e h = sym e ∙ h

-- ---- tests that are exactly a proposition, put together
pub negated : {A : Type 0} (b : Bool) → (b ≡ true) ↔ A → (not b ≡ true) ↔ (¬ A)
negated b i =
    (λ e a. never (i.1 a) (not-true b e), λ n. on_test b (λ e. absurd (n (i.0 e))) (λ e. not_no e))

pub conjoined : {A B : Type 0} (a b : Bool) → (a ≡ true) ↔ A → (b ≡ true) ↔ B → ((a && b) ≡ true) ↔ (A × B)
conjoined a b i j = (λ e. (i.0 (both_left a b e), j.0 (both_right a b e)), λ w. both (i.1 w.0) (j.1 w.1))

pub disjoined : {A B : Type 0} (a b : Bool) → (a ≡ true) ↔ A → (b ≡ true) ↔ B → ((a || b) ≡ true) ↔ (A ⊎ B)
disjoined {A} {B} a b i j = (λ e. by (either a b e), by2)
  where
    by : (a ≡ true) ⊎ (b ≡ true) → A ⊎ B
    by (inl e) = inl (i.0 e)
    by (inr e) = inr (j.0 e)

    by2 : A ⊎ B → (a || b) ≡ true
    by2 (inl x) = either_left b (i.1 x)
    by2 (inr x) = either_right a (j.1 x)

pub below_test : (a b : ℕ) → (ltb a b ≡ true) ↔ (a < b)
below_test a b = (ltb-true a b, lt-ltb a b)

pub equal_test : (a b : ℕ) → (eqb a b ≡ true) ↔ (a ≡ b)
equal_test a b = (eqb-true a b, eq-eqb a b)

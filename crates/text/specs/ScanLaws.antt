-- Laws of scanning: a number read byte by byte, and a text that stands in front.
use Rattle.std.specs.Prelude.{ℕ, suc, refl, take, ◌&&◌, ◌+◌, ◌*◌, ◌-◌, ◌≤◌, ◌<◌, ◌≡◌, List, [], ◌∷◌, Bool, cond, length, get_or, drop}
use Rattle.std.proofs.Common.{arith, ◌∙◌}
use Rattle.std.proofs.Math.Path.{sym, ap}
use Rattle.std.proofs.lemmas.Bool.{false≢true}
use Rattle.std.specs.Cmp.Lexicographic.{pointwise}
use Rattle.std.proofs.Math.Option.{Option, none, some}
use Rattle.std.proofs.Math.Bool.{true, false}
use Rattle.std.proofs.Math.Dec.{leb, eqb}
use Rattle.std.proofs.Math.ListN.{length-drop}
use Rattle.bounded.specs.Choice.{on_test, both_left, both_right}
use borrow.Author.Tests.{le-leb, lt-leb, leb-true}
use Rattle.text.specs.Scan.{behind, max_number, is_digit, end_number, number_from, number, scanned}

-- none either way
both_none : {A : Type 0} {x y : Option A} (b : Bool) → x ≡ none → y ≡ none → cond b x y ≡ none
both_none true e h = e
both_none false e h = h

-- A number above the highest is none, whatever digits follow.
pub number_over : (n value : ℕ) (s : List ℕ) → max_number < value → number_from (suc n) value s ≡ none
unfolding number_from end_number
number_over n value [] h = rw (lt-leb _ _ h)
number_over n value (b ∷ s) h =
    both_none (is_digit b) (number_over (suc n) (10 * value + (b - 48)) s (omega arith)) (let e : leb value max_number ≡ false = lt-leb _ _ h in rw e)

-- a digit stands at the front
abbrev pub DigitFirst : List ℕ → Type 0
DigitFirst s = (0 < length s) × (48 ≤ get_or s 0 0) × (get_or s 0 0 ≤ 57)

module _ (n value : ℕ) where
  -- A number goes on at a digit,
  pub number_on : (s : List ℕ) → DigitFirst s → number_from n value s ≡ number_from (suc n) (10 * value + (get_or s 0 0 - 48)) (drop 1 s)
  unfolding number_from is_digit
  number_on [] h = absurd (omega arith)
  number_on (b ∷ s) h = rw (le-leb _ _ h.1, le-leb _ _ h.2)

  -- and ends elsewhere.
  pub number_off : (s : List ℕ) → ¬ DigitFirst s → number_from n value s ≡ end_number n value s
  unfolding number_from is_digit
  number_off [] h = refl
  number_off (b ∷ s) h =
      on_test (leb 48 b && leb b 57) (λ t. absurd (h (omega arith, leb-true _ _ (both_left (leb 48 b) (leb b 57) t), leb-true _ _ (both_right (leb 48 b) (leb b 57) t)))) (λ f. rw f)

  -- Without a digit it is none,
  pub number_none : (s : List ℕ) → n ≤ 0 → ¬ DigitFirst s → number_from n value s ≡ none
  unfolding end_number
  number_none s z h = let e : n ≡ 0 = omega arith in number_off s h ∙ rw e

  -- and behind one it is there up to the highest.
  pub number_ended : (s : List ℕ) → 0 < n → value ≤ 4294967295 → ¬ DigitFirst s → number_from n value s ≡ some (scanned value s)
  unfolding end_number max_number
  number_ended s p q h = let e : n ≡ suc (n - 1) = omega arith in number_off s h ∙ rw (e, le-leb _ _ q)

-- The number at the front of a text goes on behind each digit passed, as long as it is not above the highest.
module _ (text rest : List ℕ) (value : ℕ) (shorter : length rest ≤ length text) (goes : number text ≡ number_from (length text - length rest) value rest) (digit : DigitFirst rest) where
  pub too_high : 4294967295 < 10 * value + (get_or rest 0 0 - 48) → number text ≡ none
  unfolding max_number
  too_high h = goes ∙ number_on (length text - length rest) value rest digit ∙ number_over (length text - length rest) _ (drop 1 rest) h

  pub one_more : (more : List ℕ) (next : ℕ) → more ≡ drop 1 rest → next ≡ 10 * value + (get_or rest 0 0 - 48) → (length more ≤ length text) × (number text ≡ number_from (length text - length more) next more)
  one_more more next e q =
      let n = length-drop 1 rest in
      let k : length text - length (drop 1 rest) ≡ suc (length text - length rest) = omega arith in
      rw (e, q, k) (omega arith, goes ∙ number_on (length text - length rest) value rest digit)

-- A text that stands in front or not, by its bytes compared.
in_front : (text s : List ℕ) → pointwise eqb (take (length text) s) text ≡ true → behind text s ≡ some (drop (length text) s)
unfolding behind
in_front [] s h = refl
in_front (t ∷ text) [] h = absurd (false≢true h)
in_front (t ∷ text) (b ∷ s) h =
    on_test (eqb b t) (λ e. rw e (in_front text s (rw e at h))) (λ e. absurd (false≢true (rw e at h)))

not_in_front : (text s : List ℕ) → pointwise eqb (take (length text) s) text ≡ false → behind text s ≡ none
unfolding behind
not_in_front [] s h = absurd (false≢true (sym h))
not_in_front (t ∷ text) [] h = refl
not_in_front (t ∷ text) (b ∷ s) h =
    on_test (eqb b t) (λ e. rw e (not_in_front text s (rw e at h))) (λ e. rw e)

-- What `strip_prefix` gives back is what is behind the text.
module _ (text s : List ℕ) where
  pub not_stripped : pointwise eqb (take (length text) s) text ≡ false → behind text s ≡ none
  not_stripped h = not_in_front text s h

  pub stripped : {rest : List ℕ} → (pointwise eqb (take (length text) s) text ≡ true) × (rest ≡ drop (length text) s) × (length rest + length text ≡ length s) → behind text s ≡ some rest
  stripped h = in_front text s h.0 ∙ ap some (sym h.1)

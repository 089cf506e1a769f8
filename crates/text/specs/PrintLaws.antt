-- Laws of text added to a buffer, and of a number in decimal.
use Prim.Native.Nat.{ℕ, zero, suc, ◌+◌, ◌-◌, ◌*◌, ◌/◌, ◌%◌, ◌^◌, ◌≤◌, ◌<◌}
use Rattle.std.proofs.Common.{arith, mod-eq_of_lt, pow-suc, add-one, sym, ap, ◌∙◌, append-nil, append_assoc, length-set, length-take, length-drop, take_all, take-suc, drop-cons, drop-set-lt, get_or-set_same, lt-ltb, le-ltb, le-leb}
use Rattle.std.specs.Prelude.{◌≡◌, List, [], ◌∷◌, ◌++◌, Bool, true, not, length, get_or, take, drop, set}
use Rattle.std.proofs.Math.Path.{refl}
use Rattle.std.proofs.Math.Option.{some}
use Rattle.bounded.specs.Choice.{on_lt}
use Rattle.std.proofs.Math.ListN.{length-append}
use Rattle.std.proofs.Math.Seq.{take-suc-set, take-append_seam, length-take-le, drop-length}
use Rattle.std.proofs.lemmas.Bool.{not-true}
use Rattle.text.specs.Scan.{scanned, max_number, is_digit, end_number, number_from, number}
use Rattle.text.specs.Print.{shown, added, decimal_in, decimal}

-- text cut at some length, then more text behind it
pub take_twice : (n : ℕ) (s t : List ℕ) → take n (take n s ++ t) ≡ take n (s ++ t)
take_twice zero s t = refl
take_twice (suc n) [] t = refl
take_twice (suc n) (x ∷ s) t = ap (λ (r : List ℕ). x ∷ r) (take_twice n s t)

-- one text behind another
pub added_next : (out out₁ : List ℕ) (at at₁ : ℕ) (s t : List ℕ) → shown out₁ at₁ ≡ added out at s → length out₁ ≡ length out → added out₁ at₁ t ≡ added out at (s ++ t)
unfolding added
added_next out out₁ at at₁ s t e l = rw (e, l, take_twice (length out) (shown out at ++ s) t, append_assoc (shown out at) s t)

-- text behind a field
pub field_next :
    (out out₁ : List ℕ) (at at₁ : ℕ) (name : List ℕ) (n : ℕ) (text : List ℕ) → shown out₁ at₁ ≡ added out at (name ++ decimal n) → length out₁ ≡ length out
    → added out₁ at₁ text ≡ added out at (name ++ (decimal n ++ text))
field_next out out₁ at at₁ name n text e l =
    added_next out out₁ at at₁ (name ++ decimal n) text e l ∙ ap (added out at) (append_assoc name (decimal n) text)

-- no text added
pub added_none : (out : List ℕ) (at : ℕ) → shown out at ≡ added out at []
unfolding shown added
added_none out at = rw append-nil (sym (take_all (length out) (take at out) (omega (arith, length-take at out))))

-- one byte more of a text added
pub added_more :
    (out out₁ text : List ℕ) (at at₁ i : ℕ) → i < length text → length out₁ ≡ length out → shown out₁ at₁ ≡ added out at (take i text)
    → added out₁ at₁ (get_or text i 0 ∷ []) ≡ added out at (take (i + 1) text)
added_more out out₁ text at at₁ i h l e =
    rw (add-one i, take-suc text i 0 h) (added_next out out₁ at at₁ (take i text) (get_or text i 0 ∷ []) e l)

-- A byte is put where the buffer has room; where it has none, nothing fits.
module _ (out : List ℕ) (at : ℕ) where
  pub put_room : (byte : ℕ) → at < length out → shown (set out at byte) (at + 1) ≡ added out at (byte ∷ [])
  unfolding shown added
  put_room byte h =
      rw (add-one at, take-suc-set out at byte h)
      (sym (take_all (length out) (take at out ++ (byte ∷ [])) (simp length-append (omega (arith, length-take-le at out (omega arith))))))

  pub put_full : (text : List ℕ) → length out ≤ at → shown out at ≡ added out at text
  unfolding shown added
  put_full text h = rw (take_all at out h) (sym (take-append_seam out text))

-- The digits of a number: one below 10, else those of the tenth part and one more.
module _ (k n : ℕ) where
  pub decimal_short : n < 10 → decimal_in (suc k) n ≡ (48 + n) ∷ []
  unfolding decimal_in
  decimal_short h = rw (lt-ltb n 10 h)

  pub decimal_long : 10 ≤ n → decimal_in (suc k) n ≡ decimal_in k (n / 10) ++ ((48 + n % 10) ∷ [])
  unfolding decimal_in
  decimal_long h = rw (le-ltb n 10 h)

-- Digits are put from the last on, at the end of `digits`.
pub last_digit : (digits : List ℕ) (i digit : ℕ) → i < length digits → drop i (set digits i digit) ≡ digit ∷ drop (suc i) digits
last_digit digits i digit h =
    drop-cons (set digits i digit) i 0 (simp length-set h) ∙ rw (get_or-set_same digits i digit 0 h, drop-set-lt (suc i) digits i digit (omega arith))

module _ (digits : List ℕ) where
  pub digits_none : (n : ℕ) → decimal_in (length digits) n ≡ decimal_in (length digits) n ++ drop (length digits) digits
  digits_none n = rw (drop-length, append-nil)

  pub digits_first :
      (i rest : ℕ) → 0 < i → i ≤ length digits → rest < 10
      → decimal_in i rest ++ drop i digits ≡ drop (i - 1) (set digits (i - 1) (48 + rest % 10))
  digits_first zero rest p h l = absurd (omega arith)
  digits_first (suc i) rest p h l =
      let e : suc i - 1 ≡ i = omega arith in
      rw (e, last_digit digits i (48 + rest % 10) h, decimal_short i rest l, mod-eq_of_lt l)

  pub digits_next :
      (i rest : ℕ) → 0 < i → i ≤ length digits → 10 ≤ rest
      → decimal_in i rest ++ drop i digits ≡ decimal_in (i - 1) (rest / 10) ++ drop (i - 1) (set digits (i - 1) (48 + rest % 10))
  digits_next zero rest p h l = absurd (omega arith)
  digits_next (suc i) rest p h l =
      let e : suc i - 1 ≡ i = omega arith in
      rw (e, last_digit digits i (48 + rest % 10) h, decimal_long i rest l) (append_assoc (decimal_in i (rest / 10)) ((48 + rest % 10) ∷ []) (drop (suc i) digits))

  pub digits_all : (i rest : ℕ) → i ≤ 0 → decimal_in i rest ++ drop i digits ≡ drop i digits
  unfolding decimal_in
  digits_all zero rest h = refl
  digits_all (suc i) rest h = absurd (omega arith)

-- a number of 32 bits has at most ten digits
digits_room : (k n : ℕ) → length (decimal_in k n) ≤ k
unfolding decimal_in
digits_room zero n = omega arith
digits_room (suc k) n =
    let h = digits_room k (n / 10) in
    on_lt n 10 (λ l. rw (decimal_short k n l) (omega arith)) (λ l. rw (decimal_long k n l) (simp length-append (omega arith)))

pub decimal_room : (n : ℕ) → length (decimal n) ≤ 10
unfolding decimal
decimal_room n = digits_room 10 n

-- a name, a number of 32 bits and a text behind them
pub field_room : (name text : List ℕ) (n : ℕ) → length (name ++ (decimal n ++ text)) ≤ length name + (10 + length text)
field_room name text n =
    let e = length-append name (decimal n ++ text) in
    let f = length-append (decimal n) text in
    let h = decimal_room n in
    omega arith

-- a text for which a buffer has more than enough room is put whole
pub all_put : (out left text : List ℕ) (r : ℕ) → length text < length out → length left ≡ length out → shown left r ≡ added out 0 text → (shown left r ≡ text) × (r ≡ length text)
unfolding shown added
all_put out left text r h l e =
    let whole = e ∙ take_all (length out) text (omega arith) in
    let n = length-take r left in
    let k = ap length whole in
    (whole, omega arith)

-- … and ends in the buffer
pub put_ends : (out left text : List ℕ) (r : ℕ) → length text < length out → length left ≡ length out → shown left r ≡ added out 0 text → r ≤ length left
put_ends out left text r h l e = let p = (all_put out left text r h l e).1 in omega arith

-- a number has a digit, so the place of the first is before the end
pub decimal_one : (k n : ℕ) → 0 < length (decimal_in (suc k) n)
decimal_one k n =
    on_lt n 10 (λ h. rw (decimal_short k n h) (omega arith)) (λ h. rw (decimal_long k n h) (simp length-append (omega arith)))

module _ (digits : List ℕ) (first k n : ℕ) (e : drop first digits ≡ decimal_in (suc k) n) (l : length digits ≡ suc k) where
  pub first_before : first ≤ suc k
  first_before = omega (arith, ap length e, length-drop first digits, decimal_one k n)

  pub digits_part : take (suc k - first) (drop first digits) ≡ decimal_in (suc k) n
  digits_part = take_all (suc k - first) (drop first digits) (omega (arith, length-drop first digits)) ∙ e

-- no digit stands at the front
unfoldable pub no_digit : List ℕ → Bool
no_digit [] = true
no_digit (b ∷ s) = not (is_digit b)

-- the digits of a number, read from the first on
pub digit_read : (m value digit : ℕ) (s : List ℕ) → digit < 10 → number_from m value ((48 + digit) ∷ s) ≡ number_from (suc m) (10 * value + digit) s
unfolding number_from is_digit
digit_read m value digit s h =
    let e : 48 + digit - 48 ≡ digit = omega arith in
    rw (le-leb 48 (48 + digit) (omega arith), le-leb (48 + digit) 57 (omega arith), e)

pub one_read : (k n : ℕ) (s : List ℕ) → n < 10 → number (decimal_in (suc k) n ++ s) ≡ number_from (length (decimal_in (suc k) n)) n s
unfolding number
one_read k n s l = let e : 10 * 0 + n ≡ n = omega arith in rw (decimal_short k n l) (rw e at (digit_read 0 0 n s l))

pub decimal_read : (k n : ℕ) (s : List ℕ) → n < 10 ^ suc k → number (decimal_in (suc k) n ++ s) ≡ number_from (length (decimal_in (suc k) n)) n s
decimal_read zero n s h = one_read 0 n s h
decimal_read (suc k) n s h =
    on_lt n 10 (one_read (suc k) n s)
    (λ (l : 10 ≤ n).
    let tens = decimal_in (suc k) (n / 10) in
    let d = 48 + n % 10 in
    let e : 10 * (n / 10) + n % 10 ≡ n = omega arith in
    rw (decimal_long (suc k) n l, append_assoc tens (d ∷ []) s, length-append tens (d ∷ []), add-one (length tens))
    (decimal_read k (n / 10) (d ∷ s) (omega (arith, pow-suc 10 (suc k))) ∙ rw e at (digit_read (length tens) (n / 10) (n % 10) s (omega arith))))

-- where no digit follows, the number ends
pub number_done : (m n : ℕ) (s : List ℕ) → n ≤ max_number → no_digit s ≡ true → number_from (suc m) n s ≡ some (scanned n s)
unfolding no_digit number_from end_number
number_done m n [] h e = rw (le-leb n max_number h)
number_done m n (b ∷ s) h e = rw (not-true (is_digit b) e, le-leb n max_number h)

-- A number put in decimal is read back as it was, where no digit follows.
pub read_back : (n : ℕ) (s : List ℕ) → n ≤ max_number → no_digit s ≡ true → number (decimal n ++ s) ≡ some (scanned n s)
unfolding decimal max_number
read_back n s h e =
    let l = length (decimal_in 10 n) in
    let q : l ≡ suc (l - 1) = omega (arith, decimal_one 9 n) in
    decimal_read 9 n s (omega arith) ∙ rw q (number_done (l - 1) n s h e)

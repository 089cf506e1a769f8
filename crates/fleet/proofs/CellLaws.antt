-- Laws of lines: a number in its columns is as wide as they are, of blanks and digits, and reads back; five such pieces make a line of 72 columns.
use Rattle.std.specs.Prelude.{ℕ, zero, suc, ◌+◌, ◌-◌, ◌/◌, ◌%◌, ◌^◌, ◌≤◌, ◌<◌, ◌≡◌, refl, List, [], ◌∷◌, ◌++◌, Bool, true, false, ◌&&◌, ◌||◌, ltb, eqb, length, get_or, drop, replicate}
use Rattle.std.proofs.Common.{arith, pow-suc, sym, ap, ◌∙◌, append-nil, append_assoc, length-append, take_all, take_at, drop_at, drop-drop, le-leb, le-ltb, ne_eqb, leb-true}
use Rattle.std.proofs.Math.Option.{some}
use Rattle.std.specs.List.{list_all}
use Rattle.std.proofs.lemmas.List.{length-replicate}
use Rattle.std.proofs.lemmas.List.Folds.{list_all-append}
use Rattle.bounded.specs.Choice.{on_lt, and_false, both, both_left, both_right, either_right}
use Rattle.text.specs.Scan.{max_number, scanned, is_digit, number}
use Rattle.text.specs.Print.{decimal_in, decimal}
use Rattle.text.specs.PrintLaws.{decimal_short, decimal_long, decimal_one, no_digit, read_back}
use Rattle.fleet.specs.Page.{blanks, column}
use Rattle.fleet.specs.Shown.{Cell, Empty, Number, past_blanks, ends_with, number_cell, cell_by, cell_of, cells_of, is_plain}

-- ---- digits

-- each byte is a digit
abbrev all_digits : List ℕ → Bool
all_digits = list_all is_digit

one_digit : (n : ℕ) → n < 10 → all_digits ((48 + n) ∷ []) ≡ true
unfolding is_digit
one_digit n h = rw (le-leb 48 (48 + n) (omega arith), le-leb (48 + n) 57 (omega arith))

decimal_digits : (k n : ℕ) → all_digits (decimal_in k n) ≡ true
unfolding decimal_in
decimal_digits zero n = refl
decimal_digits (suc k) n =
    on_lt n 10
    (λ h. rw (decimal_short k n h) (one_digit n h))
    (λ h. rw (decimal_long k n h) (list_all-append is_digit (decimal_in k (n / 10)) ((48 + n % 10) ∷ []) ∙ both (decimal_digits k (n / 10)) (one_digit (n % 10) (omega arith))))

-- digits are no blanks
digits_past : (s : List ℕ) → all_digits s ≡ true → past_blanks s ≡ s
unfolding past_blanks is_digit
digits_past [] e = refl
digits_past (b ∷ s) e = let h = leb-true 48 b (both_left _ _ (both_left _ _ e)) in rw (ne_eqb b 32 (λ q. omega arith))

blanks_past : (n : ℕ) (s : List ℕ) → past_blanks (replicate n 32 ++ s) ≡ past_blanks s
unfolding past_blanks
blanks_past zero s = refl
blanks_past (suc n) s = blanks_past n s

digits_plain : (s : List ℕ) → all_digits s ≡ true → is_plain s ≡ true
unfolding is_plain
digits_plain [] e = refl
digits_plain (b ∷ s) e = both (either_right (eqb b 32) (both_left (is_digit b) (all_digits s) e)) (digits_plain s (both_right (is_digit b) (all_digits s) e))

plain_append : (s t : List ℕ) → is_plain s ≡ true → is_plain t ≡ true → is_plain (s ++ t) ≡ true
unfolding is_plain
plain_append [] t a b = b
plain_append (x ∷ s) t a b = both (both_left (eqb x 32 || is_digit x) (is_plain s) a) (plain_append s t (both_right (eqb x 32 || is_digit x) (is_plain s) a) b)

blanks_plain : (n : ℕ) → is_plain (replicate n 32) ≡ true
unfolding is_plain
blanks_plain zero = refl
blanks_plain (suc n) = blanks_plain n

-- a number below 100 has two digits at most
pub decimal_two : (n : ℕ) → n < 100 → length (decimal n) ≤ 2
unfolding decimal
decimal_two n h =
    on_lt n 10
    (λ l. rw (decimal_short 9 n l) (omega arith))
    (λ l. rw (decimal_long 9 n l, decimal_short 8 (n / 10) (omega arith)) (omega arith))

-- a number above 0 of at most k digits does not begin with the digit 0
leads : (k n : ℕ) → 0 < n → n < 10 ^ k → (s : List ℕ) → 48 < get_or (decimal_in k n ++ s) 0 0
unfolding decimal_in
leads zero n a b s = absurd (omega arith)
leads (suc k) n a b s =
    on_lt n 10
    (λ h. rw (decimal_short k n h) (omega arith))
    (λ h. rw (decimal_long k n h, append_assoc (decimal_in k (n / 10)) ((48 + n % 10) ∷ []) s) (leads k (n / 10) (omega arith) (omega (arith, pow-suc 10 k)) ((48 + n % 10) ∷ s)))

-- nor does one of a single digit have another behind it
no_zero_first : (n b : ℕ) (s : List ℕ) → n ≤ max_number → decimal n ≡ b ∷ s → (eqb b 48 && ltb 0 (length s)) ≡ false
unfolding decimal max_number
no_zero_first n b s m e =
    on_lt n 10
    (λ h. let l = ap length (sym (decimal_short 9 n h) ∙ e) in rw (le-ltb 0 (length s) (omega arith)) (and_false (eqb b 48)))
    (λ h.
    let f = leads 10 n (omega arith) (omega arith) [] in
    let g : get_or (decimal_in 10 n ++ []) 0 0 ≡ b = ap (λ (l : List ℕ). get_or (l ++ []) 0 0) e in
    rw (ne_eqb b 48 (λ q. omega arith)))

-- ---- pieces of a line

-- a piece as wide as it is to be, of blanks and digits, and what it says
pub record Piece (columns : ℕ) (text : List ℕ) (cell : Cell) : Type 0 where
  pub long : length text ≡ columns
  pub plain : is_plain text ≡ true
  pub tells : cell_of text ≡ cell

pub blank_piece : (n : ℕ) → Piece n (blanks n) Empty
unfolding blanks cell_of cell_by past_blanks
blank_piece n =
    record {
      long = length-replicate n 32;
      plain = blanks_plain n;
      tells = ap cell_by (ap past_blanks (sym (append-nil (replicate n 32))) ∙ blanks_past n []);
    }

-- a number is some bytes, the first of them no 0 before others
number_cell_lem : (n : ℕ) (s : List ℕ) → n ≤ max_number → decimal n ≡ s → 0 < length s → number s ≡ some (scanned n []) → cell_by s ≡ Number n
unfolding cell_by number_cell ends_with
number_cell_lem n [] m d h e = absurd (omega arith)
number_cell_lem n (b ∷ s) m d h e = rw (no_zero_first n b s m d, e)

pub column_piece : (columns n : ℕ) → length (decimal n) ≤ columns → n ≤ max_number → Piece columns (column columns n) (Number n)
unfolding column blanks cell_of decimal no_digit
column_piece columns n h m =
    let k = columns - length (decimal n) in
    record {
      long = length-append (replicate k 32) (decimal n) ∙ (let e = length-replicate {A = ℕ} k 32 in omega arith);
      plain = plain_append (replicate k 32) (decimal n) (blanks_plain k) (digits_plain (decimal n) (decimal_digits 10 n));
      tells =
          ap cell_by (blanks_past k (decimal n) ∙ digits_past (decimal n) (decimal_digits 10 n))
          ∙ number_cell_lem n (decimal n) m refl (decimal_one 9 n) (ap number (sym (append-nil (decimal n))) ∙ read_back n [] m refl);
    }

-- ---- lines

-- a line: 72 columns, of blanks and digits, and its cells
pub record Line (text : List ℕ) (cells : List Cell) : Type 0 where
  pub long : length text ≡ 72
  pub plain : is_plain text ≡ true
  pub tells : cells_of text ≡ cells

pub five_pieces : {a b c d e : List ℕ} {i j k l m : Cell} → Piece 8 a i → Piece 16 b j → Piece 16 c k → Piece 16 d l → Piece 16 e m → Line (a ++ (b ++ (c ++ (d ++ e)))) (i ∷ j ∷ k ∷ l ∷ m ∷ [])
unfolding cells_of
five_pieces {a} {b} {c} {d} {e} p q r s t =
    let de = d ++ e in
    let cde = c ++ de in
    let bcde = b ++ cde in
    let whole = a ++ bcde in
    let a8 : drop 8 whole ≡ bcde = drop_at a bcde 8 p.long in
    let a24 : drop 24 whole ≡ cde = sym (drop-drop 16 8 whole) ∙ ap (drop 16) a8 ∙ drop_at b cde 16 q.long in
    let a40 : drop 40 whole ≡ de = sym (drop-drop 16 24 whole) ∙ ap (drop 16) a24 ∙ drop_at c de 16 r.long in
    let a56 : drop 56 whole ≡ e = sym (drop-drop 16 40 whole) ∙ ap (drop 16) a40 ∙ drop_at d e 16 s.long in
    record {
      long = omega (arith, length-append a bcde, length-append b cde, length-append c de, length-append d e, p.long, q.long, r.long, s.long, t.long);
      plain = plain_append a bcde p.plain (plain_append b cde q.plain (plain_append c de r.plain (plain_append d e s.plain t.plain)));
      tells =
          rw (take_at a bcde 8 p.long, a8, a24, a40, a56, take_at b cde 16 q.long, take_at c de 16 r.long, take_at d e 16 s.long, take_all 16 e (omega (arith, t.long)), p.tells, q.tells, r.tells, s.tells, t.tells);
    }

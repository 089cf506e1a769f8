-- The lines of a text, found one after the other from its bytes.
use Rattle.std.specs.Prelude.{ℕ, suc, ◌+◌, ◌-◌, ◌≤◌, ◌<◌, min, ◌≡◌, List, [], ◌∷◌, cond, eqb, ltb, length, take, drop, get_or, position, Option, Some, None}
use Rattle.std.specs.List.{position_or_len}
use Rattle.std.proofs.Common.{arith, refl, sym, ap, ◌∙◌, subst, length-drop, drop_of_length-le, drop-drop}
use Rattle.std.proofs.Math.Seq.{drop-cons, take-length}
use Rattle.std.proofs.lemmas.Option.{same_Some, none-some}
use borrow.Author.Tests.{lt-ltb, le-ltb}
use Rattle.bounded.specs.Choice.{on_lt, on_test}
use Rattle.text.specs.Lines.{onto, lines_of}

-- how many bytes the first line has
unfoldable pub line_length : List ℕ → ℕ
line_length [] = 0
line_length (b ∷ text) = cond (eqb b 10) 0 (suc (line_length text))

-- as many as stand before the first line end
length_position : (text : List ℕ) → line_length text ≡ position_or_len (λ b. eqb b 10) text
unfolding line_length
length_position [] = refl
length_position (b ∷ text) = on_test (eqb b 10) (λ e. rw e) (λ e. let h = length_position text in rw e (omega arith))

-- a line is no longer than the text
pub length_within : (text : List ℕ) → line_length text ≤ length text
unfolding line_length
length_within [] = omega arith
length_within (b ∷ text) =
    let h = length_within text in
    on_test (eqb b 10) (λ e. rw e (omega arith)) (λ e. rw e (omega arith))

-- where that is found, or none is, in a text's rest
module _ (text : List ℕ) (at : ℕ) (within : at ≤ length text) (feed : Option ℕ) (found : feed ≡ position (λ b. eqb b 10) (take (length text - at) (drop at text))) where
  rest_is : take (length text - at) (drop at text) ≡ drop at text
  rest_is = rw (← length-drop at text) (take-length (drop at text))

  feed_by : feed ≡ cond (ltb (line_length (drop at text)) (length text - at)) (Some (line_length (drop at text))) None
  feed_by = found ∙ ap (position (λ b. eqb b 10)) rest_is ∙ rw (length_position (drop at text), ← length-drop at text)

  feed_inside : line_length (drop at text) < length text - at → feed ≡ Some (line_length (drop at text))
  feed_inside l = rw (lt-ltb (line_length (drop at text)) (length text - at) l) at feed_by

  feed_past : length text - at ≤ line_length (drop at text) → feed ≡ None
  feed_past l = rw (le-ltb (line_length (drop at text)) (length text - at) l) at feed_by

  pub feed_there : (n : ℕ) → feed ≡ Some n → at + n ≡ at + line_length (drop at text)
  feed_there n is =
      on_lt (line_length (drop at text)) (length text - at)
      (λ l. ap (λ (k : ℕ). at + k) (same_Some n (line_length (drop at text)) (sym is ∙ feed_inside l)))
      (λ l. absurd (none-some n (sym (feed_past l) ∙ is)))

  pub feed_none : feed ≡ None → length text ≡ at + line_length (drop at text)
  feed_none is =
      let w = length_within (drop at text) in
      let d = length-drop at text in
      on_lt (line_length (drop at text)) (length text - at)
      (λ l. absurd (none-some (line_length (drop at text)) (sym is ∙ feed_inside l)))
      (λ l. omega arith)

-- ---- the lines

-- the first line, and the others
pub lines_first : (b : ℕ) (text : List ℕ) → lines_of (b ∷ text) ≡ take (line_length (b ∷ text)) (b ∷ text) ∷ lines_of (drop (suc (line_length (b ∷ text))) (b ∷ text))
unfolding lines_of line_length onto
lines_first b [] = on_test (eqb b 10) (λ e. rw e) (λ e. rw e)
lines_first b (c ∷ text) =
    on_test (eqb b 10)
    (λ e. rw e)
    (λ e. let h = lines_first c text in rw (e, h))

module _ (text : List ℕ) (at end next : ℕ) (e : end ≡ at + line_length (drop at text)) (n : next ≡ min (end + 1) (length text)) where
  -- a text's lines from a place on: the line there, and those behind it
  pub lines_next : at < length text → lines_of (drop at text) ≡ take (line_length (drop at text)) (drop at text) ∷ lines_of (drop next text)
  lines_next h =
      subst (λ (l : List ℕ). lines_of l ≡ take (line_length l) l ∷ lines_of (drop (suc (line_length l)) l)) (sym (drop-cons text at 0 h)) (lines_first (get_or text at 0) (drop (suc at) text))
      ∙ ap (λ (l : List ℕ). take (line_length (drop at text)) (drop at text) ∷ lines_of l) (drop-drop (suc (line_length (drop at text))) at text ∙ behind)
    where
      behind : drop (at + suc (line_length (drop at text))) text ≡ drop next text
      behind =
          on_lt end (length text)
          (λ l. let k : at + suc (line_length (drop at text)) ≡ next = omega arith in ap (λ (k : ℕ). drop k text) k)
          (λ l. let a : length text ≤ at + suc (line_length (drop at text)) = omega arith in let b : length text ≤ next = omega arith in drop_of_length-le text a ∙ sym (drop_of_length-le text b))

  pub end_within : at ≤ length text → (at ≤ end) × (end ≤ length text)
  end_within h = let w = length_within (drop at text) in let d = length-drop at text in (omega arith, omega arith)

-- Laws of a line's meaning: where it ends, and its list of numbers read one by one.
use Prim.Native.Nat.{ℕ, suc, ◌+◌, ◌-◌, ◌≤◌, ◌<◌}
use native.Mathlib.Omega.{arith}
use Rattle.std.proofs.Math.Numerals.{add-one}
use Rattle.std.specs.Bool.{then_some, ◌==◌}
use Rattle.std.specs.Prelude.{eqb, Bool, true, false, cond, ◌≡◌, refl, length, take, set}
use Rattle.std.proofs.Math.Path.{sym, ap}
use Rattle.std.proofs.Common.{◌∙◌}
use Rattle.std.proofs.Math.Option.{Option, none, some, map, some-ne-none, some-injective}
use mathlib.Core.List.{List, [], ◌∷◌, ◌++◌, append_assoc}
use Rattle.std.proofs.Math.Seq.{take-suc-set}
use borrow.Author.Tests.{ne_eqb}
use Rattle.text.specs.Scan.{number, behind, scanned}
use Rattle.line.specs.declared.Line.{Line}
use Rattle.line.specs.Line.{said, said_of, at_end, list_behind, list_from, numbers}

-- a line that says this, where it ends
pub end_said : (s : List ℕ) (line : Line) (list : List ℕ) → said_of (then_some (length s == 0) line) list ≡ at_end s (said line list)
unfolding at_end
end_said [] line list = refl
end_said (b ∷ s) line list = let q : (length (b ∷ s) == 0) ≡ false = ne_eqb _ _ (λ e. omega arith) in rw q

-- one list behind another, by its first number
pub first_joined : (p : List ℕ) (v : ℕ) (o : Option (List ℕ)) → map (λ (l : List ℕ). p ++ l) (map (λ (l : List ℕ). v ∷ l) o) ≡ map (λ (l : List ℕ). (p ++ (v ∷ [])) ++ l) o
first_joined p v none = refl
first_joined p v (some l) = ap some (sym (append_assoc p (v ∷ []) l))

-- A text where a test passes, and what is made of it.
module _ (s : List ℕ) where
  none_made : (t : Bool) (o : Option (List ℕ)) → cond t (some s) none ≡ none → cond t o none ≡ none
  none_made true o e = absurd (some-ne-none s e)
  none_made false o e = refl

  some_made : (t : Bool) (rest : List ℕ) (f : List ℕ → Option (List ℕ)) → cond t (some s) none ≡ some rest → cond t (f s) none ≡ f rest
  some_made true rest f e = ap f (some-injective s rest e)
  some_made false rest f e = absurd (some-ne-none rest (sym e))

-- What stands behind a number of a list: nothing, a comma and more, or neither.
module _ (value : ℕ) where
  last_number : (left : List ℕ) (more : List ℕ → Option (List ℕ)) → length left ≤ 0 → list_behind value left more ≡ some (value ∷ [])
  unfolding list_behind
  last_number [] more h = refl
  last_number (b ∷ s) more h = absurd (omega arith)

  no_comma : (left : List ℕ) (more : List ℕ → Option (List ℕ)) → 0 < length left → behind (44 ∷ []) left ≡ none → list_behind value left more ≡ none
  unfolding list_behind behind
  no_comma [] more h d = absurd (omega arith)
  no_comma (b ∷ s) more h d = none_made s (eqb b 44) _ d

  comma : (left rest : List ℕ) (more : List ℕ → Option (List ℕ)) → 0 < length left → behind (44 ∷ []) left ≡ some rest → list_behind value left more ≡ map (λ (l : List ℕ). value ∷ l) (more rest)
  unfolding list_behind behind
  comma [] rest more h d = absurd (omega arith)
  comma (b ∷ s) rest more h d = some_made s (eqb b 44) rest (λ (s : List ℕ). map (λ (l : List ℕ). value ∷ l) (more s)) d

-- At most k numbers make up s: the first n are in the list, and the others make up the rest.
abbrev pub Goes : (k : ℕ) (s list : List ℕ) (n : ℕ) (rest : List ℕ) → Type 0
Goes k s list n rest = numbers k s ≡ map (λ (l : List ℕ). take n list ++ l) (numbers (k - n) rest)

pub goes_first : (k : ℕ) (s list : List ℕ) → Goes k s list 0 s
goes_first k s list = let e : k - 0 ≡ k = omega arith in rw e (same (numbers k s))
  where
    same : (o : Option (List ℕ)) → o ≡ map (λ (l : List ℕ). l) o
    same none = refl
    same (some l) = refl

module _ (k : ℕ) (s list : List ℕ) (n : ℕ) (rest : List ℕ) (g : Goes k s list n rest) where
  goes_none : numbers (k - n) rest ≡ none → none ≡ numbers k s
  goes_none e = sym (rw e at g)

  pub goes_full : k ≤ n → none ≡ numbers k s
  unfolding numbers
  goes_full h = goes_none (let e : k - n ≡ 0 = omega arith in rw e)

  module _ (h : n < k) where
    -- at most one number fewer behind the first of the rest
    one_fewer : numbers (k - n) rest ≡ list_from (number rest) (numbers (k - (n + 1)))
    unfolding numbers
    one_fewer = let e : k - n ≡ suc (k - (n + 1)) = omega arith in rw e

    pub goes_not : number rest ≡ none → none ≡ numbers k s
    unfolding list_from
    goes_not o = goes_none (rw o at one_fewer)

    module _ (value : ℕ) (left : List ℕ) (o : number rest ≡ some (scanned value left)) where
      by_left : numbers (k - n) rest ≡ list_behind value left (numbers (k - (n + 1)))
      unfolding list_from
      by_left = one_fewer ∙ rw o

      pub goes_wrong : 0 < length left → behind (44 ∷ []) left ≡ none → none ≡ numbers k s
      goes_wrong b d = goes_none (by_left ∙ no_comma value left _ b d)

      module _ (room : n < length list) where
        pub goes_end : length left ≤ 0 → some (take (n + 1) (set list n value)) ≡ numbers k s
        goes_end b =
            let e : numbers (k - n) rest ≡ some (value ∷ []) = by_left ∙ last_number value left _ b in
            rw (add-one n, take-suc-set list n value room) (sym (rw e at g))

        pub goes_on : {more : List ℕ} → 0 < length left → behind (44 ∷ []) left ≡ some more → Goes k s (set list n value) (n + 1) more
        goes_on {more} b c =
            let e : numbers (k - n) rest ≡ map (λ (l : List ℕ). value ∷ l) (numbers (k - (n + 1)) more) = by_left ∙ comma value left more _ b c in
            g ∙ rw (e, add-one n, take-suc-set list n value room) (first_joined (take n list) value (numbers (k - suc n) more))

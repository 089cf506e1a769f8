-- Writing one part changes that part and no other; a list is its parts joined. Each law is over the width.
use Prim.Native.Nat.{ℕ, zero, suc, ◌+◌, ◌*◌, ◌-◌, ◌≤◌, ◌<◌}
use Rattle.std.proofs.Common.{mul-le-mul_left, mul-zero, ◌∙◌, subst, eq-eqb, ne_eqb, drop_at, get_or-take, get_or-drop}
use Rattle.std.proofs.Math.Nat.{mul-suc}
use native.Mathlib.Omega.{arith}
use Rattle.std.specs.Prelude.{◌≡◌}
use Rattle.std.proofs.Math.Path.{refl, sym, ap, ap₂, fun_ext}
use mathlib.Core.List.{List, [], ◌∷◌, ◌++◌, append-nil, append_assoc}
use lib.ListN.{length, take, drop, get_or, length-append, length-take, length-drop, take-append-drop, drop_of_length-le}
use Rattle.std.proofs.Math.Seq.{take-append-le, take_at, drop-append-add, drop-drop, length-take-le}
use Rattle.std.proofs.lemmas.List.{drop-append-le}
use Rattle.bounded.specs.Choice.{on_lt, on_eq}
use Rattle.bounded.specs.Parts.{part, put_at, put_part, join_from, join_parts, update}

-- Part k of n lies inside w × n elements, and parts of different numbers lie apart.
pub part_inside : (w n k : ℕ) → k < n → w * k + w ≤ w * n
part_inside w n k h = subst (λ (x : ℕ). x ≤ w * n) (mul-suc w k) (mul-le-mul_left w h)

-- the written function at k and elsewhere
pub update_same : {A : Type 0} (f : ℕ → A) (k : ℕ) (x : A) → update f k x k ≡ x
unfolding update
update_same f k x = rw (eq-eqb k k refl)

pub update_other : {A : Type 0} (f : ℕ → A) (k : ℕ) (x : A) (i : ℕ) → ¬ (i ≡ k) → update f k x i ≡ f i
unfolding update
update_other f k x i h = rw (ne_eqb i k h)

module _ {A : Type 0} where
  pub length_put_at : (l : List A) (a : ℕ) (s : List A) → a + length s ≤ length l → length (put_at l a s) ≡ length l
  unfolding put_at
  length_put_at l a s h = simp (length-append, length-take, length-drop) (omega arith)

  -- reading the elements just written
  pub take_drop_put_at_same : (l : List A) (a : ℕ) (s : List A) (n : ℕ) → a ≤ length l → length s ≡ n → take n (drop a (put_at l a s)) ≡ s
  unfolding put_at
  take_drop_put_at_same l a s n h e =
      rw (drop_at (take a l) (s ++ drop (a + length s) l) a (length-take-le a l h)) (take_at s (drop (a + length s) l) n e)

  -- reading elements that lie before the written ones
  pub take_drop_put_at_before : (l : List A) (a : ℕ) (s : List A) (b n : ℕ) → b + n ≤ a → a ≤ length l → take n (drop b (put_at l a s)) ≡ take n (drop b l)
  unfolding put_at
  take_drop_put_at_before l a s b n h i =
      let la : length (take a l) ≡ a = length-take-le a l i in
      let ld : length (drop b (take a l)) ≡ a - b = length-drop b (take a l) ∙ ap (λ (x : ℕ). x - b) la in
      ap (take n) (drop-append-le b (take a l) (s ++ drop (a + length s) l) (omega arith))
      ∙ take-append-le n (drop b (take a l)) (s ++ drop (a + length s) l) (omega arith)
      ∙ sym (take-append-le n (drop b (take a l)) (drop a l) (omega arith))
      ∙ ap (take n) (sym (drop-append-le b (take a l) (drop a l) (omega arith)) ∙ ap (drop b) (take-append-drop a l))

  -- reading elements that lie behind the written ones
  pub drop_put_at_behind : (l : List A) (a : ℕ) (s : List A) (b : ℕ) → a + length s ≤ b → a ≤ length l → drop b (put_at l a s) ≡ drop b l
  unfolding put_at
  drop_put_at_behind l a s b h i =
      let k : ℕ = b - (a + length s) in
      let la : length (take a l) ≡ a = length-take-le a l i in
      let e : b ≡ length (take a l) + (length s + k) = omega arith in
      let e2 : (a + length s) + k ≡ b = omega arith in
      ap (λ (x : ℕ). drop x (take a l ++ (s ++ drop (a + length s) l))) e
      ∙ drop-append-add (take a l) (s ++ drop (a + length s) l) (length s + k)
      ∙ drop-append-add s (drop (a + length s) l) k
      ∙ drop-drop k (a + length s) l
      ∙ ap (λ (x : ℕ). drop x l) e2

  -- ---- one part written

  pub length_put_part : (w n k : ℕ) (s l : List A) → k < n → length s ≡ w → length l ≡ w * n → length (put_part w k s l) ≡ length l
  unfolding put_part
  length_put_part w n k s l h e q = length_put_at l (w * k) s (let i = part_inside w n k h in omega arith)

  pub part_put_same : (w n k : ℕ) (s l : List A) → k < n → length s ≡ w → length l ≡ w * n → part w k (put_part w k s l) ≡ s
  unfolding part put_part
  part_put_same w n k s l h e q = take_drop_put_at_same l (w * k) s w (let i = part_inside w n k h in omega arith) e

  pub part_put_other : (w n k j : ℕ) (s l : List A) → k < n → length s ≡ w → length l ≡ w * n → ¬ (j ≡ k) → part w j (put_part w k s l) ≡ part w j l
  unfolding part put_part
  part_put_other w n k j s l h e q d =
      let i = part_inside w n k h in
      on_lt j k
      (λ b. take_drop_put_at_before l (w * k) s (w * j) w (part_inside w k j b) (omega arith))
      (λ b. ap (take w) (drop_put_at_behind l (w * k) s (w * j) (let m = part_inside w j k (omega arith) in omega arith) (omega arith)))

  pub part_length : (w n k : ℕ) (l : List A) → k < n → length l ≡ w * n → length (part w k l) ≡ w
  unfolding part
  part_length w n k l h q = simp (length-take, length-drop) (let i = part_inside w n k h in omega arith)

  -- an element of the list is the same, whatever stands for those outside it
  pub element_there : (l : List A) (i : ℕ) (d e : A) → i < length l → get_or l i d ≡ get_or l i e
  element_there [] i d e h = absurd (omega arith)
  element_there (x ∷ l) zero d e h = refl
  element_there (x ∷ l) (suc i) d e h = element_there l i d e (omega arith)

  -- element j of part k is element wk + j
  pub part_at : (w k : ℕ) (l : List A) (j : ℕ) (d : A) → j < w → get_or (part w k l) j d ≡ get_or l (w * k + j) d
  unfolding part
  part_at w k l j d h = rw (get_or-take, get_or-drop)

  -- ---- parts joined

  pub length_join_from : (w n i : ℕ) (f : ℕ → List A) → ((k : ℕ) → length (f k) ≡ w) → length (join_from n i f) ≡ w * n
  unfolding join_from
  length_join_from w zero i f h = sym (mul-zero w)
  length_join_from w (suc n) i f h =
      let e = length_join_from w n (suc i) f h in
      let g = h i in
      length-append (f i) (join_from n (suc i) f) ∙ let m = mul-suc w n in omega arith

  pub length_join_parts : (w n : ℕ) (f : ℕ → List A) → ((k : ℕ) → length (f k) ≡ w) → length (join_parts n f) ≡ w * n
  unfolding join_parts
  length_join_parts w n f h = length_join_from w n 0 f h

  pub part_join_from : (w n i k : ℕ) (f : ℕ → List A) → ((k : ℕ) → length (f k) ≡ w) → k < n → part w k (join_from n i f) ≡ f (i + k)
  unfolding part join_from
  part_join_from w zero i k f h l = absurd (omega arith)
  part_join_from w (suc n) i zero f h l =
      ap (λ (x : ℕ). take w (drop x (f i ++ join_from n (suc i) f))) (mul-zero w)
      ∙ take_at (f i) (join_from n (suc i) f) w (h i)
      ∙ ap f (let e : i ≡ i + 0 = omega arith in e)
  part_join_from w (suc n) i (suc k) f h l =
      let e : w * suc k ≡ length (f i) + w * k = let a = mul-suc w k in let b = h i in omega arith in
      let ih = part_join_from w n (suc i) k f h (omega arith) in
      ap (λ (x : ℕ). take w (drop x (f i ++ join_from n (suc i) f))) e
      ∙ ap (take w) (drop-append-add (f i) (join_from n (suc i) f) (w * k))
      ∙ ih
      ∙ ap f (let q : suc i + k ≡ i + suc k = omega arith in q)

  pub part_join_parts : (w n k : ℕ) (f : ℕ → List A) → ((k : ℕ) → length (f k) ≡ w) → k < n → part w k (join_parts n f) ≡ f k
  unfolding join_parts
  part_join_parts w n k f h l = part_join_from w n 0 k f h l ∙ ap f (let e : 0 + k ≡ k = omega arith in e)

  -- the joined list depends on the first n lists alone
  pub join_from_cong : (n i : ℕ) (f g : ℕ → List A) → ((k : ℕ) → i ≤ k → k < i + n → f k ≡ g k) → join_from n i f ≡ join_from n i g
  unfolding join_from
  join_from_cong zero i f g h = refl
  join_from_cong (suc n) i f g h =
      ap₂ ◌++◌ (h i (omega arith) (omega arith)) (join_from_cong n (suc i) f g (λ k a b. h k (omega arith) (omega arith)))

  pub join_parts_cong : (n : ℕ) (f g : ℕ → List A) → ((k : ℕ) → k < n → f k ≡ g k) → join_parts n f ≡ join_parts n g
  unfolding join_parts
  join_parts_cong n f g h = join_from_cong n 0 f g (λ k a b. h k (omega arith))

  -- a list of n parts is its parts joined
  pub join_from_parts : (w n i : ℕ) (l : List A) → length l ≡ w * (i + n) → join_from n i (λ k. part w k l) ≡ drop (w * i) l
  unfolding join_from part
  join_from_parts w zero i l q = sym (drop_of_length-le l (omega (arith, ap (λ (x : ℕ). w * x) (let e : i + 0 ≡ i = omega arith in e))))
  join_from_parts w (suc n) i l q =
      let e : i + suc n ≡ suc i + n = omega arith in
      let ih = join_from_parts w n (suc i) l (q ∙ ap (λ (x : ℕ). w * x) e) in
      let m = mul-suc w i in
      let r : drop (w * suc i) l ≡ drop w (drop (w * i) l) = ap (λ (x : ℕ). drop x l) (let z : w * suc i ≡ w * i + w = omega arith in z) ∙ sym (drop-drop w (w * i) l) in
      ap (λ (x : List A). take w (drop (w * i) l) ++ x) (ih ∙ r) ∙ take-append-drop w (drop (w * i) l)

  pub join_parts_parts : (w n : ℕ) (l : List A) → length l ≡ w * n → join_parts n (λ k. part w k l) ≡ l
  unfolding join_parts
  join_parts_parts w n l q =
      join_from_parts w n 0 l (q ∙ ap (λ (x : ℕ). w * x) (let e : n ≡ 0 + n = omega arith in e))
      ∙ ap (λ (x : ℕ). drop x l) (mul-zero w)

  -- two lists of n parts with equal parts are equal
  pub parts_ext : (w n : ℕ) (l m : List A) → length l ≡ w * n → length m ≡ w * n → ((k : ℕ) → k < n → part w k l ≡ part w k m) → l ≡ m
  parts_ext w n l m p q h =
      sym (join_parts_parts w n l p) ∙ join_parts_cong n (λ k. part w k l) (λ k. part w k m) h ∙ join_parts_parts w n m q

-- writing part k of n changes the parts, as a function, at k alone
pub parts_put : (w n k : ℕ) (s l : List ℕ) → k < n → length s ≡ w → length l ≡ w * n → (λ i. part w i (put_part w k s l)) ≡ update (λ i. part w i l) k s
parts_put w n k s l h e q =
    fun_ext (λ i. on_eq i k
    (λ d. subst (λ (x : ℕ). part w x (put_part w k s l) ≡ update (λ i. part w i l) k s x) (sym d)
    (part_put_same w n k s l h e q ∙ sym (update_same (λ i. part w i l) k s)))
    (λ d. part_put_other w n k i s l h e q d ∙ sym (update_other (λ i. part w i l) k s i d)))

-- a function of each value, after an update
pub update_map : {A B : Type 0} (g : A → B) (f : ℕ → A) (k : ℕ) (x : A) → (λ i. g (update f k x i)) ≡ update (λ i. g (f i)) k (g x)
update_map g f k x =
    fun_ext (λ i. on_eq i k
    (λ d. subst (λ (j : ℕ). g (update f k x j) ≡ update (λ i. g (f i)) k (g x) j) (sym d) (ap g (update_same f k x) ∙ sym (update_same (λ i. g (f i)) k (g x))))
    (λ d. ap g (update_other f k x i d) ∙ sym (update_other (λ i. g (f i)) k (g x) i d)))

-- one list more, behind those joined
pub join_from_more : {A : Type 0} (f : ℕ → List A) (n i last : ℕ) → last ≡ i + n → join_from (suc n) i f ≡ join_from n i f ++ f last
unfolding join_from
join_from_more f zero i last e = let k : last ≡ i = omega arith in rw k (append-nil (f i))
join_from_more {A} f (suc n) i last e =
    ap (λ (rest : List A). f i ++ rest) (join_from_more f n (suc i) last (omega arith)) ∙ sym (append_assoc (f i) (join_from n (suc i) f) (f last))

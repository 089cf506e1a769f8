-- The numbers of fillings are the ways to leave listed slots blank, each once.
use Rattle.std.specs.Prelude.{ℕ, suc, ◌+◌, ◌*◌, ◌/◌, ◌%◌, ◌^◌, ◌<◌, ◌≡◌, refl, ◌⊎◌, ◌↔◌, Bool, true, false, ◌&&◌, length, get_or}
use Rattle.std.proofs.Common.{pow-suc, arith, sym, ap, ◌∙◌, inl, inr}
use Rattle.std.proofs.Math.Path.{subst}
use Rattle.std.proofs.Math.Logic.{⊎_elim}
use mathlib.Core.List.Memᴰ
use mathlib.Core.List.{List, [], ◌∷◌, Memᴰ}
use Rattle.std.proofs.Math.Dec.{ltb, eqb}
use borrow.Author.Tests.{ltb-true, eqb-true, eq-eqb, ne_eqb}
use Rattle.bounded.specs.Limits.{Widths}
use Rattle.bounded.specs.Choice.{on_eq, on_test, never, both_left, both_right}
use Rattle.bounded.specs.BelowLaws.{all_at, some_of, some_at}
use Rattle.bounded.specs.Members.{listed?, member_at, entry_member}
use Rattle.sizes.specs.declared.Layout.TheVariants.{FiveWords}
use Rattle.sizes.specs.declared.Sizes.{Sizes}
use Rattle.sizes.specs.Sizes.{sizes_ok, words_fit, contents_fit, in_range, no_repeats, listed}
use Rattle.sizes.specs.SizesLaws.{SizesFacts}
use Rattle.sizes.proofs.SizesLaws.{sizes_facts, words_fit_exactly, contents_fit_exactly}
use Rattle.sizes.specs.Lists.{no_repeats_apart}
use Rattle.record.specs.Flash.{Flash}
use Rattle.record.specs.FlashLaws.{SizedIn, blanks_listed, blanks_unlisted}
use Rattle.rules.specs.Erase.{erase_steps}
use Rattle.upkeep.specs.Doubtful.{absent_in, filled_with, doubtful_list_ok, doubtful_fits}
use Rattle.upkeep.specs.Doubted.{passing, EachFilling, Fills, Fillings}

-- ---- a list without repetitions

abbrev pub Apart : List ℕ → Type 0
Apart l = (i j : ℕ) → i < length l → j < length l → get_or l i 0 ≡ get_or l j 0 → i ≡ j

module _ (k : ℕ) (l : List ℕ) (a : Apart (k ∷ l)) where
  head_new : ¬ (Memᴰ k l)
  head_new m = let w = member_at l k m in let z : 0 ≡ suc w.0 = a 0 (suc w.0) (omega arith) (let b = w.1 in omega arith) (sym w.2) in omega arith

  tail_apart : Apart l
  tail_apart i j h g e = let s : suc i ≡ suc j = a (suc i) (suc j) (omega arith) (omega arith) e in omega arith

-- ---- the first listed slot has the last digit

module _ (k : ℕ) (l : List ℕ) (m : ℕ) where
  pub there : m % 2 ≡ 0 → absent_in (k ∷ l) m ≡ absent_in l (m / 2)
  unfolding absent_in
  there e = rw (eq-eqb (m % 2) 0 e)

  pub absent : ¬ (m % 2 ≡ 0) → absent_in (k ∷ l) m ≡ k ∷ absent_in l (m / 2)
  unfolding absent_in
  absent d = rw (ne_eqb (m % 2) 0 d)

-- a slot that is blank is listed
pub absent_listed : (l : List ℕ) (m k : ℕ) → Memᴰ k (absent_in l m) → Memᴰ k l
unfolding absent_in
absent_listed [] m k h = absurd (Memᴰ.not-nil h)
absent_listed (x ∷ l) m k h =
    on_eq (m % 2) 0
    (λ e. Memᴰ.tail (absent_listed l (m / 2) k (subst (Memᴰ k) (there x l m e) h)))
    (λ d. ⊎_elim (λ e. Memᴰ.head e) (λ t. Memᴰ.tail (absent_listed l (m / 2) k t)) (Memᴰ.cases_cons (subst (Memᴰ k) (absent x l m d) h)))

-- ---- whichever are chosen

each_chosen : (l : List ℕ) (q : ℕ → Bool) → (m : ℕ) × (m < 2 ^ length l) × (absent_in l m ≡ passing q l)
unfolding absent_in passing
each_chosen [] q = (0, omega arith, refl)
each_chosen (k ∷ l) q =
    let w = each_chosen l q in
    let b = w.1 in
    on_test (q k)
    (λ e.
    let m = 2 * w.0 + 1 in
    let h : m / 2 ≡ w.0 = omega arith in
    (m, omega (arith, pow-suc 2 (length l)), absent k l m (λ z. omega arith) ∙ ap (λ (x : ℕ). k ∷ absent_in l x) h ∙ ap (λ (r : List ℕ). k ∷ r) w.2 ∙ rw e))
    (λ e.
    let m = 2 * w.0 in
    let h : m / 2 ≡ w.0 = omega arith in
    (m, omega (arith, pow-suc 2 (length l)), there k l m (omega arith) ∙ ap (absent_in l) h ∙ w.2 ∙ rw e))

-- ---- no two numbers leave the same

rest_of : List ℕ → List ℕ
rest_of [] = []
rest_of (x ∷ l) = l

once_each : (l : List ℕ) → Apart l → (m n : ℕ) → m < 2 ^ length l → n < 2 ^ length l → absent_in l m ≡ absent_in l n → m ≡ n
unfolding rest_of
once_each [] a m n h g e = omega arith
once_each (k ∷ l) a m n h g e =
    let p = pow-suc 2 (length l) in
    let tails : absent_in l (m / 2) ≡ absent_in l (n / 2) → m / 2 ≡ n / 2 = once_each l (tail_apart k l a) (m / 2) (n / 2) (omega arith) (omega arith) in
    on_eq (m % 2) 0
    (λ x. on_eq (n % 2) 0
    (λ y. let t = tails (sym (there k l m x) ∙ e ∙ there k l n y) in omega arith)
    (λ y. absurd (head_new k l a (absent_listed l (m / 2) k (subst (Memᴰ k) (sym (sym (there k l m x) ∙ e ∙ absent k l n y)) (Memᴰ.head refl))))))
    (λ x. on_eq (n % 2) 0
    (λ y. absurd (head_new k l a (absent_listed l (n / 2) k (subst (Memᴰ k) (sym (absent k l m x) ∙ e ∙ there k l n y) (Memᴰ.head refl)))))
    (λ y. let t = tails (ap rest_of (sym (absent k l m x) ∙ e ∙ absent k l n y)) in omega arith))

-- ---- each number leaves blank what some choice does

said : {k : ℕ} {l : List ℕ} → Memᴰ k l ⊎ ¬ (Memᴰ k l) → Bool
said (inl m) = true
said (inr n) = false

is_in : List ℕ → ℕ → Bool
is_in l k = said (listed? k l)

is_in_lem : (l : List ℕ) (k : ℕ) → Memᴰ k l → is_in l k ≡ true
unfolding said is_in
is_in_lem l k m = by (listed? k l)
  where
    by : (s : Memᴰ k l ⊎ ¬ (Memᴰ k l)) → said s ≡ true
    by (inl h) = refl
    by (inr n) = absurd (n m)

is_not_in : (l : List ℕ) (k : ℕ) → ¬ (Memᴰ k l) → is_in l k ≡ false
unfolding said is_in
is_not_in l k d = by (listed? k l)
  where
    by : (s : Memᴰ k l ⊎ ¬ (Memᴰ k l)) → said s ≡ false
    by (inl h) = absurd (d h)
    by (inr n) = refl

passing_same : (l : List ℕ) (q r : ℕ → Bool) → ((k : ℕ) → Memᴰ k l → q k ≡ r k) → passing q l ≡ passing r l
unfolding passing
passing_same [] q r h = refl
passing_same (k ∷ l) q r h =
    let e = h k (Memᴰ.head refl) in
    let t = passing_same l q r (λ j m. h j (Memᴰ.tail m)) in
    rw (e, t)

chosen_by : (l : List ℕ) → Apart l → (m : ℕ) → absent_in l m ≡ passing (is_in (absent_in l m)) l
unfolding absent_in passing
chosen_by [] a m = refl
chosen_by (k ∷ l) a m =
    let rest = absent_in l (m / 2) in
    let i = chosen_by l (tail_apart k l a) (m / 2) in
    on_eq (m % 2) 0
    (λ e. subst (λ (x : List ℕ). x ≡ passing (is_in x) (k ∷ l)) (sym (there k l m e)) (i ∙ rw (is_not_in rest k (λ h. head_new k l a (absent_listed l (m / 2) k h)))))
    (λ d. subst (λ (x : List ℕ). x ≡ passing (is_in x) (k ∷ l)) (sym (absent k l m d))
    (ap (λ (x : List ℕ). k ∷ x) (i ∙ passing_same l (is_in rest) (is_in (k ∷ rest)) (λ j h. same j h)) ∙ rw (is_in_lem (k ∷ rest) k (Memᴰ.head refl))))
  where
    same : (j : ℕ) → Memᴰ j l → is_in (absent_in l (m / 2)) j ≡ is_in (k ∷ absent_in l (m / 2)) j
    same j h =
        ⊎_elim
        (λ b. is_in_lem _ j b ∙ sym (is_in_lem _ j (Memᴰ.tail b)))
        (λ n. is_not_in _ j n ∙ sym (is_not_in _ j (λ b. ⊎_elim (λ e. head_new k l a (subst (λ (x : ℕ). Memᴰ x l) e h)) n (Memᴰ.cases_cons b))))
        (listed? j (absent_in l (m / 2)))

pub each_filling : (slots : List ℕ) → no_repeats slots ≡ true → EachFilling slots
each_filling slots e =
    let a = no_repeats_apart 0 slots e in
    record { each = each_chosen slots; chosen = λ m. (is_in (absent_in slots m), chosen_by slots a m); once = once_each slots a }

-- ---- the slots of a filling

-- those that pass are listed, and pass
passing_member : (q : ℕ → Bool) (l : List ℕ) (k : ℕ) → Memᴰ k (passing q l) ↔ (Memᴰ k l × (q k ≡ true))
unfolding passing
passing_member q [] k = (λ m. absurd (Memᴰ.not-nil m), λ w. absurd (Memᴰ.not-nil w.0))
passing_member q (x ∷ l) k = on_test (q x) (yes (passing_member q l k)) (no (passing_member q l k))
  where
    yes : (Memᴰ k (passing q l) ↔ (Memᴰ k l × (q k ≡ true))) → q x ≡ true → Memᴰ k (passing q (x ∷ l)) ↔ (Memᴰ k (x ∷ l) × (q k ≡ true))
    yes i e = (
      λ m. ⊎_elim (λ h. (Memᴰ.head h, ap q h ∙ e)) (λ t. let w = i.0 t in (Memᴰ.tail w.0, w.1)) (Memᴰ.cases_cons (rw e at m)),
      λ w. rw e (⊎_elim (λ h. Memᴰ.head h) (λ t. Memᴰ.tail (i.1 (t, w.1))) (Memᴰ.cases_cons w.0)),
    )

    no : (Memᴰ k (passing q l) ↔ (Memᴰ k l × (q k ≡ true))) → q x ≡ false → Memᴰ k (passing q (x ∷ l)) ↔ (Memᴰ k (x ∷ l) × (q k ≡ true))
    no i e = (
      λ m. let w = i.0 (rw e at m) in (Memᴰ.tail w.0, w.1),
      λ w. rw e (⊎_elim (λ h. absurd (never (sym (ap q h) ∙ w.1) e)) (λ t. i.1 (t, w.1)) (Memᴰ.cases_cons w.0)),
    )

-- a list's entries, by the test
module _ (l : List ℕ) (k : ℕ) where
  is_listed : Memᴰ k l → listed l k ≡ true
  unfolding listed
  is_listed m = let w = member_at l k m in some_of (λ i. eqb (get_or l i 0) k) (length l) w.0 w.1 (eq-eqb (get_or l w.0 0) k w.2)

  listed_member : listed l k ≡ true → Memᴰ k l
  unfolding listed
  listed_member e = let w = some_at (λ i. eqb (get_or l i 0) k) (length l) e in entry_member l w.0 k w.1 (eqb-true (get_or l w.0 0) k w.2)

-- P, S and the lengths are right
pub record FitsFacts (sizes : Sizes) (f : Flash) (out : List ℕ) : Type 0 where
  pub bounds : SizesFacts sizes.pages sizes.slots
  pub flash_sized : SizedIn FiveWords sizes.width sizes.slots f
  pub out_sized : length out ≡ 2 * sizes.pages

pub fits_facts : (widths : Widths) (sizes : Sizes) (f : Flash) (out : List ℕ) → doubtful_fits widths sizes f out ≡ true → FitsFacts sizes f out
unfolding doubtful_fits
fits_facts widths sizes f out e =
    let words_test : Bool = words_fit sizes.slots f.words in
    let contents_test : Bool = contents_fit sizes.width sizes.slots f.contents in
    let out_test : Bool = eqb (length out) (2 * sizes.pages) in
    let e1 = both_right (sizes_ok widths sizes) (words_test && (contents_test && out_test)) e in
    let e2 = both_right words_test (contents_test && out_test) e1 in
    record {
      bounds = (sizes_facts widths sizes (both_left (sizes_ok widths sizes) (words_test && (contents_test && out_test)) e)).0;
      flash_sized = record {
        words_sized = (words_fit_exactly sizes.slots f.words).0 (both_left words_test (contents_test && out_test) e1);
        contents_sized = (contents_fit_exactly sizes.width sizes.slots f.contents).0 (both_left contents_test out_test e2);
      };
      out_sized = eqb-true (length out) (2 * sizes.pages) (both_right contents_test out_test e2);
    }

-- … and a list of slots
pub record Listable (sizes : Sizes) (f : Flash) (slots : List ℕ) : Type 0 where
  pub sized : SizedIn FiveWords sizes.width sizes.slots f
  pub in_range_lem : (k : ℕ) → Memᴰ k slots → k < sizes.slots
  pub new : no_repeats slots ≡ true

module _ (widths : Widths) (sizes : Sizes) (f : Flash) (slots out : List ℕ) (fits : doubtful_fits widths sizes f out ≡ true) (ok : doubtful_list_ok sizes.slots f.words slots ≡ true) where
  pub listable : Listable sizes f slots
  unfolding doubtful_list_ok in_range
  listable =
      record {
        sized = (fits_facts widths sizes f out fits).flash_sized;
        in_range_lem = λ k m. let w = member_at slots k m in let h = ltb-true _ _ (all_at (λ i. ltb (get_or slots i 0) sizes.slots) (length slots) w.0 (both_left (in_range sizes.slots slots) _ ok) w.1) in subst (λ (j : ℕ). j < sizes.slots) w.2 h;
        new = both_left (no_repeats slots) _ (both_right (in_range sizes.slots slots) _ ok);
      }

module _ (sizes : Sizes) (f : Flash) (slots : List ℕ) (l : Listable sizes f slots) (q : ℕ → Bool) where
  pub absent_inside : (k : ℕ) → Memᴰ k (passing q slots) → k < sizes.slots
  absent_inside k m = l.in_range_lem k ((passing_member q slots k).0 m).0

  fills : (k : ℕ) → Fills sizes f slots q k
  unfolding filled_with erase_steps
  fills k = record {
    absent = λ e y. (blanks_listed FiveWords sizes.width sizes.slots (passing q slots) f k l.sized absent_inside ((passing_member q slots k).1 (listed_member slots k e, y))).slot_blank;
    present = λ n. let s = blanks_unlisted FiveWords sizes.width sizes.slots (passing q slots) f k l.sized absent_inside (λ m. let w = (passing_member q slots k).0 m in ⊎_elim (never (is_listed slots k w.0)) (never w.1) n) in (s.same_slot, s.same_bytes);
  }

pub all_fillings : Fillings
all_fillings widths sizes f slots out fits ok = let l = listable widths sizes f slots out fits ok in (each_filling slots l.new, λ q k h. fills sizes f slots l q k)

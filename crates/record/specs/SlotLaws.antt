-- What the tests of records and slots say, as facts; and that a slot's words and what it holds determine each other.
use Rattle.std.specs.Prelude.{ℕ, ◌≤◌, ◌<◌, ◌≡◌, refl, ◌⊎◌, ◌↔◌, List, [], ◌∷◌, Bool, true, false, not, ◌&&◌, ◌||◌, ltb, leb, length, get_or}
use Rattle.std.proofs.Common.{arith, sym, ap, ◌∙◌, inl, inr}
use Rattle.std.proofs.lemmas.Bool.{false≢true}
use Rattle.std.proofs.lemmas.Option.{same_Some}
use Rattle.std.proofs.Math.Dec.{eqb}
use borrow.Author.Tests.{ltb-true, leb-true, eqb-true, lt-ltb, le-leb, eq-eqb, ne_eqb}
use Rattle.bounded.specs.Limits.{no_number, highest_version}
use Rattle.bounded.specs.Choice.{on_eq, on_test, both, both_left, both_right, either, either_left, either_right, not_no}
use Rattle.bounded.specs.Below.{all_below}
use Rattle.bounded.specs.BelowLaws.{all_at, all_of, all_fails, some_of, some_at}
use Rattle.sizes.specs.declared.Layout.{Layout}
use Rattle.sizes.specs.declared.Layout.TheVariants.{FiveWords, FourWords}
use Rattle.sizes.specs.Sizes.{stride_of}
use Rattle.record.specs.declared.Record.{Record}
use Rattle.record.specs.Slot.{Slot}
use Rattle.std.specs.Prelude.{None, Some, is_some}
use Rattle.record.specs.Slot.{encoded, decoded, blank_in, slot_from, words_of, record_of, all_blank, slot_of, blank_record, formatted_record, planned_record, record_sound, is_blank, holds, some_record, straddles}

-- ---- soundness

-- "It is sound if p and np are below P, v, c and nv are at most 4,294,967,294, c is below v (or both are 0), and nv equals v where np equals p."
pub record SoundRecord (P : ℕ) (r : Record) : Type 0 where
  pub page_below : r.p < P
  pub next_below : r.np < P
  pub v_most : r.v ≤ highest_version
  pub c_most : r.c ≤ highest_version
  pub nv_most : r.nv ≤ highest_version
  pub c_before_v_lem : (r.c < r.v) ⊎ ((r.c ≡ 0) × (r.v ≡ 0))
  pub own_link : r.np ≡ r.p → r.nv ≡ r.v

-- "c is below v (or both are 0)"
unfoldable pub c_before_v : ℕ → ℕ → Bool
c_before_v c v = ltb c v || (eqb c 0 && eqb v 0)

back_fact : (c v : ℕ) → c_before_v c v ≡ true → (c < v) ⊎ ((c ≡ 0) × (v ≡ 0))
unfolding c_before_v
back_fact c v e = pick (either (ltb c v) (eqb c 0 && eqb v 0) e)
  where
    pick : (ltb c v ≡ true) ⊎ ((eqb c 0 && eqb v 0) ≡ true) → (c < v) ⊎ ((c ≡ 0) × (v ≡ 0))
    pick (inl h) = inl (ltb-true c v h)
    pick (inr h) = inr (eqb-true c 0 (both_left (eqb c 0) (eqb v 0) h), eqb-true v 0 (both_right (eqb c 0) (eqb v 0) h))

back_test : (c v : ℕ) → (c < v) ⊎ ((c ≡ 0) × (v ≡ 0)) → c_before_v c v ≡ true
unfolding c_before_v
back_test c v (inl h) = either_left (eqb c 0 && eqb v 0) (lt-ltb c v h)
back_test c v (inr h) = either_right (ltb c v) (both (eq-eqb c 0 h.0) (eq-eqb v 0 h.1))

-- "nv equals v where np equals p"
own_test : (np p nv v : ℕ) → Bool
own_test np p nv v = not (eqb np p) || eqb nv v

own_fact : (np p nv v : ℕ) → own_test np p nv v ≡ true → np ≡ p → nv ≡ v
unfolding own_test
own_fact np p nv v e q = eqb-true nv v (rw (eq-eqb np p q) at e)

own_test_lem : (np p nv v : ℕ) → (np ≡ p → nv ≡ v) → own_test np p nv v ≡ true
unfolding own_test
own_test_lem np p nv v f =
    on_eq np p (λ q. either_right (not (eqb np p)) (eq-eqb nv v (f q))) (λ d. either_left (eqb nv v) (not_no (ne_eqb np p d)))

module _ (P : ℕ) (r : Record) where
  pub sound_facts : record_sound P r ≡ true → SoundRecord P r
  unfolding record_sound c_before_v own_test
  sound_facts e0 =
      let e1 = both_right (ltb r.p P) _ e0 in
      let e2 = both_right (ltb r.np P) _ e1 in
      let e3 = both_right (leb r.v highest_version) _ e2 in
      let e4 = both_right (leb r.c highest_version) _ e3 in
      let e5 = both_right (leb r.nv highest_version) _ e4 in
      record {
        page_below = ltb-true _ _ (both_left (ltb r.p P) _ e0);
        next_below = ltb-true _ _ (both_left (ltb r.np P) _ e1);
        v_most = leb-true _ _ (both_left (leb r.v highest_version) _ e2);
        c_most = leb-true _ _ (both_left (leb r.c highest_version) _ e3);
        nv_most = leb-true _ _ (both_left (leb r.nv highest_version) _ e4);
        c_before_v_lem = back_fact r.c r.v (both_left (c_before_v r.c r.v) (own_test r.np r.p r.nv r.v) e5);
        own_link = own_fact r.np r.p r.nv r.v (both_right (c_before_v r.c r.v) (own_test r.np r.p r.nv r.v) e5);
      }

  pub sound_test : SoundRecord P r → record_sound P r ≡ true
  unfolding record_sound c_before_v own_test
  sound_test s =
      both (lt-ltb _ _ s.page_below)
      (both (lt-ltb _ _ s.next_below)
      (both (le-leb _ _ s.v_most)
      (both (le-leb _ _ s.c_most)
      (both (le-leb _ _ s.nv_most)
      (both (back_test r.c r.v s.c_before_v_lem) (own_test_lem r.np r.p r.nv r.v s.own_link))))))

  -- the test is exactly document 01's sentence
  pub sound_exactly : (record_sound P r ≡ true) ↔ SoundRecord P r
  sound_exactly = (sound_facts, sound_test)

pub planned_sound :
    (P page used committed next used_of_next : ℕ)
    → page < P
    → next < P
    → used ≤ highest_version
    → used_of_next ≤ highest_version
    → committed < used
    → (next ≡ page → used_of_next ≡ used)
    → record_sound P (planned_record page used committed next used_of_next) ≡ true
unfolding planned_record
planned_sound P page used committed next used_of_next hp hn hu hv hc own =
    sound_test P (planned_record page used committed next used_of_next) (record {
      page_below = hp;
      next_below = hn;
      v_most = hu;
      c_most = omega arith;
      nv_most = hv;
      c_before_v_lem = inl hc;
      own_link = own;
    })

-- ---- straddling

-- "K straddles I's link if K.p = I.np and K.c < I.nv < K.v."
pub record Straddles (K I : Record) : Type 0 where
  pub at_next : K.p ≡ I.np
  pub above_c : K.c < I.nv
  pub below_v : I.nv < K.v

module _ (K I : Record) where
  pub straddles_facts : straddles K I ≡ true → Straddles K I
  unfolding straddles
  straddles_facts e =
      let e1 = both_right (eqb K.p I.np) _ e in
      record {
        at_next = eqb-true _ _ (both_left (eqb K.p I.np) _ e);
        above_c = ltb-true _ _ (both_left (ltb K.c I.nv) (ltb I.nv K.v) e1);
        below_v = ltb-true _ _ (both_right (ltb K.c I.nv) (ltb I.nv K.v) e1);
      }

  pub straddles_test : Straddles K I → straddles K I ≡ true
  unfolding straddles
  straddles_test s = both (eq-eqb _ _ s.at_next) (both (lt-ltb _ _ s.above_c) (lt-ltb _ _ s.below_v))

  pub straddles_exactly : (straddles K I ≡ true) ↔ Straddles K I
  straddles_exactly = (straddles_facts, straddles_test)

-- A sound record never straddles its own link: where np is p, nv is v.
pub own_link_unstraddled : (P : ℕ) (r : Record) → record_sound P r ≡ true → straddles r r ≡ false
own_link_unstraddled P r e =
    on_test (straddles r r)
    (λ t. let s = straddles_facts r r t in absurd (let q = (sound_facts P r e).own_link (sym s.at_next) in omega arith))
    (λ t. t)

-- ---- a slot's words

pub encoded_length : (layout : Layout) (r : Record) → length (encoded layout r) ≡ stride_of layout
unfolding encoded
encoded_length FiveWords r = refl
encoded_length FourWords r = refl

pub words_length : (r : Record) → length (words_of r) ≡ 5
words_length r = encoded_length FiveWords r

pub record_of_words : (r : Record) → record_of (words_of r) ≡ r
unfolding decoded encoded
record_of_words r = refl

-- ---- slots

-- "A blank slot has 4,294,967,295 in all five words. Any other slot is a record."
abbrev pub BlankWords : Layout → List ℕ → Type 0
BlankWords layout ws = (i : ℕ) → i < stride_of layout → get_or ws i no_number ≡ no_number

module _ (layout : Layout) (ws : List ℕ) where
  pub all_blank_exactly : (blank_in layout ws ≡ true) ↔ BlankWords layout ws
  unfolding blank_in
  all_blank_exactly = (
    λ e i h. eqb-true _ _ (all_at (λ i. eqb (get_or ws i no_number) no_number) (stride_of layout) i e h),
    λ f. all_of (λ i. eqb (get_or ws i no_number) no_number) (stride_of layout) (λ i h. eq-eqb _ _ (f i h)),
  )

  pub slot_blank : blank_in layout ws ≡ true → slot_from layout ws ≡ None
  unfolding slot_from
  slot_blank e = rw e

  pub slot_holds : blank_in layout ws ≡ false → slot_from layout ws ≡ Some (decoded layout ws)
  unfolding slot_from
  slot_holds e = rw e

  -- one word that is not 4,294,967,295 makes a slot a record
  pub word_not_blank : (i : ℕ) → i < stride_of layout → ¬ (get_or ws i no_number ≡ no_number) → blank_in layout ws ≡ false
  unfolding blank_in
  word_not_blank i h d = all_fails (λ i. eqb (get_or ws i no_number) no_number) (stride_of layout) i h (ne_eqb _ _ d)

  pub slot_blank_exactly : (slot_from layout ws ≡ None) ↔ BlankWords layout ws
  slot_blank_exactly = (
    λ e. on_test (blank_in layout ws) (λ t. all_blank_exactly.0 t) (λ t. absurd (clash e (slot_holds t))),
    λ f. slot_blank (all_blank_exactly.1 f),
  )
    where
      clash : {s : Slot} {r : Record} → s ≡ None → s ≡ Some r → ⊥
      clash e h = let z : ◌≡◌ {A = ℕ} 0 1 = cc in omega arith

-- the words of a slot, read one by one, are those of a record
pub five_words : (ws : List ℕ) → length ws ≡ 5 → ws ≡ words_of (record { p = get_or ws 0 0; v = get_or ws 1 0; c = get_or ws 2 0; np = get_or ws 3 0; nv = get_or ws 4 0 })
unfolding encoded
five_words [] e = absurd (omega arith)
five_words (a ∷ []) e = absurd (omega arith)
five_words (a ∷ b ∷ []) e = absurd (omega arith)
five_words (a ∷ b ∷ c ∷ []) e = absurd (omega arith)
five_words (a ∷ b ∷ c ∷ d ∷ []) e = absurd (omega arith)
five_words (a ∷ b ∷ c ∷ d ∷ f ∷ []) e = refl
five_words (a ∷ b ∷ c ∷ d ∷ f ∷ g ∷ ws) e = absurd (omega arith)

-- four words are blank where they are so in five with a fifth that is
pub four_blank : (ws : List ℕ) → length ws ≡ 4 → all_blank (words_of (record { p = get_or ws 0 0; v = get_or ws 1 0; c = no_number; np = get_or ws 2 0; nv = get_or ws 3 0 })) ≡ blank_in FourWords ws
unfolding blank_in all_below encoded
four_blank [] e = absurd (omega arith)
four_blank (a ∷ []) e = absurd (omega arith)
four_blank (a ∷ b ∷ []) e = absurd (omega arith)
four_blank (a ∷ b ∷ c ∷ []) e = absurd (omega arith)
four_blank (a ∷ b ∷ c ∷ d ∷ []) e = by (eqb a no_number) (eqb b no_number) (eqb c no_number) (eqb d no_number)
  where
    by : (a b c d : Bool) → (((((true && a) && b) && true) && c) && d) ≡ ((((true && a) && b) && c) && d)
    by true true c d = refl
    by true false c d = refl
    by false b c d = refl
four_blank (a ∷ b ∷ c ∷ d ∷ f ∷ ws) e = absurd (omega arith)

-- the record in four words, read one by one
pub four_decoded : (ws : List ℕ) → length ws ≡ 4 → decoded FourWords ws ≡ record { p = get_or ws 0 0; v = get_or ws 1 0; c = 0; np = get_or ws 2 0; nv = get_or ws 3 0 }
unfolding decoded
four_decoded [] e = absurd (omega arith)
four_decoded (a ∷ []) e = absurd (omega arith)
four_decoded (a ∷ b ∷ []) e = absurd (omega arith)
four_decoded (a ∷ b ∷ c ∷ []) e = absurd (omega arith)
four_decoded (a ∷ b ∷ c ∷ d ∷ []) e = refl
four_decoded (a ∷ b ∷ c ∷ d ∷ f ∷ ws) e = absurd (omega arith)

-- A record that is not blank in v is decoded from its words; from four where its back pointer is 0.
abbrev pub Storable : Layout → Record → Type 0
Storable FiveWords r = r.v ≤ highest_version
Storable FourWords r = (r.v ≤ highest_version) × (r.c ≡ 0)

pub formatted_storable : (layout : Layout) (k : ℕ) → Storable layout (formatted_record k)
unfolding formatted_record
formatted_storable FiveWords k = omega arith
formatted_storable FourWords k = (omega arith, refl)

pub slot_decoded : (layout : Layout) (r : Record) → Storable layout r → slot_from layout (encoded layout r) ≡ Some r
unfolding encoded decoded
slot_decoded FiveWords r h =
    slot_holds FiveWords (words_of r) (word_not_blank FiveWords (words_of r) 1 (omega arith) (λ e. omega arith)) ∙ ap Some (record_of_words r)
slot_decoded FourWords r h =
    let l = h.0 in
    slot_holds FourWords (encoded FourWords r) (word_not_blank FourWords (encoded FourWords r) 1 (omega arith) (λ e. omega arith))
    ∙ ap (λ (c : ℕ). Some (record { p = r.p; v = r.v; c = c; np = r.np; nv = r.nv })) (sym h.1)

pub slot_of_words : (r : Record) → r.v ≤ highest_version → slot_of (words_of r) ≡ Some r
slot_of_words r h = slot_decoded FiveWords r h

pub slot_of_none : (layout : Layout) → slot_from layout (encoded layout blank_record) ≡ None
unfolding slot_from encoded blank_record blank_in all_below
slot_of_none FiveWords = refl
slot_of_none FourWords = refl

pub slot_of_blank : slot_of (words_of blank_record) ≡ None
slot_of_blank = slot_of_none FiveWords

pub is_blank_exactly : (s : Slot) → (is_blank s ≡ true) ↔ (s ≡ None)
unfolding is_blank
is_blank_exactly None = (λ e. refl, λ e. refl)
is_blank_exactly (Some r) = (λ e. absurd (false≢true e), λ e. absurd (let z : ◌≡◌ {A = ℕ} 0 1 = cc in omega arith))

-- a slot that is not blank holds a record
pub not_blank_exactly : (s : Slot) → (is_blank s ≡ false) ↔ ((r : Record) × (s ≡ Some r))
unfolding is_blank
not_blank_exactly None = (λ e. absurd (false≢true (sym e)), λ w. let z : ◌≡◌ {A = ℕ} 0 1 = cc w.1 in absurd (omega arith))
not_blank_exactly (Some r) = (λ e. (r, refl), λ w. refl)

-- one slot holds one record
pub holds_one : {s : Slot} {a b : Record} → s ≡ Some a → s ≡ Some b → a ≡ b
holds_one e h = cc

-- ---- records in a table

-- the slot holds a record that passes
pub holds_exactly : (f : Record → Bool) (s : Slot) → (holds f s ≡ true) ↔ ((r : Record) × (s ≡ Some r) × (f r ≡ true))
unfolding holds
holds_exactly f None = (λ e. absurd (false≢true e), λ w. absurd (let e = w.1 in let z : ◌≡◌ {A = ℕ} 0 1 = cc in omega arith))
holds_exactly f (Some r) = (λ e. (r, refl, e), λ w. ap f (same_Some r w.0 w.1) ∙ w.2)

-- some slot below S of the table t holds a record that passes
abbrev pub SomeRecord : ℕ → (ℕ → Slot) → (Record → Bool) → Type 0
SomeRecord S t f = (k : ℕ) × (r : Record) × (k < S) × (t k ≡ Some r) × (f r ≡ true)

module _ (S : ℕ) (t : ℕ → Slot) (f : Record → Bool) where
  pub some_record_at : some_record S t f ≡ true → SomeRecord S t f
  unfolding some_record
  some_record_at e =
      let w = some_at (λ k. holds f (t k)) S e in
      let h = (holds_exactly f (t w.0)).0 w.2 in
      (w.0, h.0, w.1, h.1, h.2)

  pub some_record_of : SomeRecord S t f → some_record S t f ≡ true
  unfolding some_record
  some_record_of w = some_of (λ k. holds f (t k)) S w.0 w.2 ((holds_exactly f (t w.0)).1 (w.1, w.3, w.4))

  -- "some record …"
  pub some_record_exactly : (some_record S t f ≡ true) ↔ SomeRecord S t f
  some_record_exactly = (some_record_at, some_record_of)

-- "some record" that passes a test which is exactly Q
pub some_record_lem :
    (S : ℕ) (t : ℕ → Slot) (f : Record → Bool) {Q : Record → Type 0}
    → ((r : Record) → (f r ≡ true) ↔ Q r)
    → (some_record S t f ≡ true) ↔ ((k : ℕ) × (r : Record) × (k < S) × (t k ≡ Some r) × Q r)
some_record_lem S t f i = (
  λ e. let w = some_record_at S t f e in (w.0, w.1, w.2, w.3, (i w.1).0 w.4),
  λ w. some_record_of S t f (w.0, w.1, w.2, w.3, (i w.1).1 w.4),
)

-- a slot that is none is blank
pub none_blank : (s : Slot) (b : Bool) → is_some s ≡ not b → b ≡ is_blank s
unfolding is_blank
none_blank None true e = refl
none_blank None false e = absurd (false≢true e)
none_blank (Some r) true e = absurd (false≢true (sym e))
none_blank (Some r) false e = refl

-- a slot of which is told whether it is some holds a record exactly where that is told
pub some_held : (s t : Slot) (b : Bool) → b ≡ is_some s → s ≡ t → b ≡ not (is_blank t)
unfolding is_blank
some_held None t b h e = h ∙ ap (λ (x : Slot). not (is_blank x)) e
some_held (Some r) t b h e = h ∙ ap (λ (x : Slot). not (is_blank x)) e

pub some_not_blank : (s t : Slot) (b : Bool) → b ≡ is_some s → s ≡ t → b ≡ true → is_blank t ≡ false
unfolding is_blank
some_not_blank None t b h e y = absurd (false≢true (sym h ∙ y))
some_not_blank (Some r) t b h e y = sym (ap is_blank e)

pub not_some_blank : (s t : Slot) (b : Bool) → b ≡ is_some s → s ≡ t → b ≡ false → is_blank t ≡ true
unfolding is_blank
not_some_blank None t b h e n = sym (ap is_blank e)
not_some_blank (Some r) t b h e n = absurd (false≢true (sym n ∙ h))

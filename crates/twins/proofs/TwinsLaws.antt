-- Twins as facts: both slots hold one record, with the same bytes.
use Rattle.std.specs.Prelude.{ℕ, ◌<◌, ◌≡◌, refl, ◌↔◌, List, true, false, ◌&&◌, eqb, length, get_or}
use Rattle.std.proofs.Common.{arith, sym, ap, ◌∙◌, ext_get_or, eqb-true, eq-eqb}
use Rattle.std.proofs.Math.Bool.{not}
use Rattle.std.proofs.lemmas.Bool.{false≢true}
use Rattle.std.proofs.lemmas.Option.{same_Some}
use Rattle.bounded.specs.Below.{some_below}
use Rattle.bounded.specs.Choice.{on_lt, on_eq, on_test, never, both, both_left, both_right, not_no, same_test}
use Rattle.bounded.specs.BelowLaws.{all_at, all_of, some_of, some_none, some_not_at}
use Rattle.record.specs.declared.Record.{Record}
use Rattle.record.specs.Slot.{Slot}
use Rattle.std.specs.Prelude.{None, Some}
use Rattle.record.specs.Slot.{slot_at, bytes_at}
use Rattle.record.specs.SlotLaws.{holds_exactly, holds_one}
use Rattle.record.specs.Flash.{Flash}
use Rattle.table.specs.Given.{given}
use Rattle.table.specs.Table.{clash}
use Rattle.table.proofs.TableLaws.{blank_holds, holds_of, clash_exactly}
use Rattle.twins.specs.Twins.{same_words, same_record, has_same_bytes, twins, some_conflict}
use Rattle.twins.specs.TwinsLaws.{Twins}

-- equal "in all words": one record
pub same_words_lem : (a b : Record) → (same_words a b ≡ true) ↔ (a ≡ b)
unfolding same_words given
same_words_lem a b = (
  λ e0.
      let e1 = both_right (eqb a.p b.p) _ e0 in
      let e2 = both_right (eqb a.v b.v) _ e1 in
      let e3 = both_right (eqb a.c b.c) _ e2 in
      let p = eqb-true a.p b.p (both_left (eqb a.p b.p) _ e0) in
      let v = eqb-true a.v b.v (both_left (eqb a.v b.v) _ e1) in
      let c = eqb-true a.c b.c (both_left (eqb a.c b.c) _ e2) in
      let np = eqb-true a.np b.np (both_left (eqb a.np b.np) (eqb a.nv b.nv) e3) in
      let nv = eqb-true a.nv b.nv (both_right (eqb a.np b.np) (eqb a.nv b.nv) e3) in
      let one : given a.p a.v a.c a.np a.nv ≡ given b.p b.v b.c b.np b.nv = cc in
      one,
  λ e.
      both (eq-eqb _ _ (ap (λ (r : Record). r.p) e))
      (both (eq-eqb _ _ (ap (λ (r : Record). r.v) e))
      (both (eq-eqb _ _ (ap (λ (r : Record). r.c) e))
      (both (eq-eqb _ _ (ap (λ (r : Record). r.np) e)) (eq-eqb _ _ (ap (λ (r : Record). r.nv) e))))),
)

-- both slots hold it
pub same_record_lem : (a b : Slot) → (same_record a b ≡ true) ↔ ((r : Record) × (a ≡ Some r) × (b ≡ Some r))
unfolding same_record
same_record_lem a None = (λ e. absurd (false≢true e), λ w. absurd (blank_holds refl w.2))
same_record_lem a (Some r) = (
  λ e. let h = (holds_exactly (same_words r) a).0 e in (r, h.1 ∙ ap Some (sym ((same_words_lem r h.0).0 h.2)), refl),
  λ w. holds_of (same_words r) w.1 ((same_words_lem r w.0).1 (same_Some r w.0 w.2)),
)

-- "… and bytes": w of them are equal,
pub bytes_agree : (w : ℕ) (a b : List ℕ) → (has_same_bytes w a b ≡ true) ↔ ((i : ℕ) → i < w → get_or a i 0 ≡ get_or b i 0)
unfolding has_same_bytes
bytes_agree w a b = (
  λ e i h. eqb-true _ _ (all_at (λ i. eqb (get_or a i 0) (get_or b i 0)) w i e h),
  λ same. all_of (λ i. eqb (get_or a i 0) (get_or b i 0)) w (λ i h. eq-eqb _ _ (same i h)),
)

-- and where there are no more, the lists are
pub same_bytes : (w : ℕ) (a b : List ℕ) → length a ≡ w → length b ≡ w → (has_same_bytes w a b ≡ true) ↔ (a ≡ b)
same_bytes w a b m n = (
  λ e. ext_get_or 0 a b (m ∙ sym n) (λ i h. (bytes_agree w a b).0 e i (omega arith)),
  λ e. (bytes_agree w a b).1 (λ i h. ap (λ (l : List ℕ). get_or l i 0) e),
)

-- two that have "equal page and version" with a third have it with each other
clash_shared : (x y z : Slot) → clash x z ≡ true → clash y z ≡ true → clash x y ≡ true
clash_shared x y z e h =
    let a = (clash_exactly x z).0 e in
    let b = (clash_exactly y z).0 h in
    let r = holds_one a.3 b.3 in
    (clash_exactly x y).1 (a.0, b.0, a.2, b.2, a.4 ∙ ap (λ (r : Record). r.p) r ∙ sym b.4, a.5 ∙ ap (λ (r : Record). r.v) r ∙ sym b.5)

module _ (w : ℕ) (f : Flash) where
  -- the two tests that it is
  twins_are : (j k : ℕ) → (twins w f j k ≡ true) ↔ ((same_record (slot_at f.words j) (slot_at f.words k) ≡ true) × (has_same_bytes w (bytes_at w f.contents j) (bytes_at w f.contents k) ≡ true))
  unfolding twins
  twins_are j k = (
    λ e. (both_left (same_record (slot_at f.words j) (slot_at f.words k)) _ e, both_right (same_record (slot_at f.words j) (slot_at f.words k)) _ e),
    λ t. both t.0 t.1,
  )

  -- the test is exactly the sentence, of two slots that have w bytes each
  pub twins_exactly : (j k : ℕ) → length (bytes_at w f.contents j) ≡ w → length (bytes_at w f.contents k) ≡ w → (twins w f j k ≡ true) ↔ Twins w f j k
  twins_exactly j k m n = (
    λ e. let t = (twins_are j k).0 e in
        let r = (same_record_lem (slot_at f.words j) (slot_at f.words k)).0 t.0 in
        (r.0, r.1, r.2, (same_bytes w (bytes_at w f.contents j) (bytes_at w f.contents k) m n).0 t.1),
    λ t. (twins_are j k).1
        ((same_record_lem (slot_at f.words j) (slot_at f.words k)).1 (t.0, t.1, t.2), (same_bytes w (bytes_at w f.contents j) (bytes_at w f.contents k) m n).1 t.3),
  )

  -- twins hold one record, whatever their bytes' number
  pub twins_hold : (j k : ℕ) → twins w f j k ≡ true → (r : Record) × (slot_at f.words j ≡ Some r) × (slot_at f.words k ≡ Some r)
  twins_hold j k e = (same_record_lem (slot_at f.words j) (slot_at f.words k)).0 ((twins_are j k).0 e).0

  -- a slot that holds a record is its own twin
  pub twins_self : (k : ℕ) {r : Record} → slot_at f.words k ≡ Some r → twins w f k k ≡ true
  twins_self k {r} e =
      (twins_are k k).1
      ((same_record_lem (slot_at f.words k) (slot_at f.words k)).1 (r, e, e), (bytes_agree w (bytes_at w f.contents k) (bytes_at w f.contents k)).1 (λ i h. refl))

  twins_back : (j k : ℕ) → twins w f j k ≡ true → twins w f k j ≡ true
  twins_back j k e =
      let t = twins_hold j k e in
      let b = (bytes_agree w (bytes_at w f.contents j) (bytes_at w f.contents k)).0 ((twins_are j k).0 e).1 in
      (twins_are k j).1 (
        (same_record_lem (slot_at f.words k) (slot_at f.words j)).1 (t.0, t.2, t.1),
        (bytes_agree w (bytes_at w f.contents k) (bytes_at w f.contents j)).1 (λ i h. sym (b i h)),
      )

  -- slots j and k are twins exactly where k and j are
  pub twins_sym : (j k : ℕ) → twins w f j k ≡ twins w f k j
  twins_sym j k = same_test (twins w f j k) (twins w f k j) (twins_back j k) (twins_back k j)

  -- a twin's twin is one
  pub twins_trans : (i j k : ℕ) → twins w f i j ≡ true → twins w f j k ≡ true → twins w f i k ≡ true
  twins_trans i j k e g =
      let t = twins_hold i j e in
      let u = twins_hold j k g in
      let a = (bytes_agree w (bytes_at w f.contents i) (bytes_at w f.contents j)).0 ((twins_are i j).0 e).1 in
      let b = (bytes_agree w (bytes_at w f.contents j) (bytes_at w f.contents k)).0 ((twins_are j k).0 g).1 in
      (twins_are i k).1 (
        (same_record_lem (slot_at f.words i) (slot_at f.words k)).1 (t.0, t.1, u.2 ∙ sym u.1 ∙ t.2),
        (bytes_agree w (bytes_at w f.contents i) (bytes_at w f.contents k)).1 (λ n h. a n h ∙ b n h),
      )

  -- Slot k and the slots below it, where no two of these conflict:
  module _ (k : ℕ) (agree : some_conflict k (slot_at f.words) (twins w f) ≡ false) where
    -- two below k of "equal page and version" are twins,
    clash_twins : (j i : ℕ) → j < i → i < k → clash (slot_at f.words j) (slot_at f.words i) ≡ true → twins w f j i ≡ true
    unfolding some_conflict
    clash_twins j i l h e =
        let a = some_not_at (λ k. some_below k (λ j. clash (slot_at f.words j) (slot_at f.words k) && not (twins w f j k))) k i agree h in
        let b = some_not_at (λ j. clash (slot_at f.words j) (slot_at f.words i) && not (twins w f j i)) i j a l in
        on_test (twins w f j i) (λ y. y) (λ n. absurd (never (both e (not_no n)) b))

    -- so one slot of equal page and version with k's tells whether any conflicts with k.
    pub one_tells :
        (j : ℕ)
        → j < k
        → clash (slot_at f.words j) (slot_at f.words k) ≡ true
        → not (twins w f j k) ≡ some_below k (λ i. clash (slot_at f.words i) (slot_at f.words k) && not (twins w f i k))
    one_tells j h e =
        on_test (twins w f j k)
        (λ y. rw y (sym (some_none _ k (λ i l. on_test (clash (slot_at f.words i) (slot_at f.words k)) (λ c. rw (c, others y i l c)) (λ n. rw n)))))
        (λ n. not_no n ∙ sym (some_of _ k j h (both e (not_no n))))
      where
        others : twins w f j k ≡ true → (i : ℕ) → i < k → clash (slot_at f.words i) (slot_at f.words k) ≡ true → twins w f i k ≡ true
        others y i l c =
            on_lt i j
            (λ m. twins_trans i j k (clash_twins i j m h (clash_shared (slot_at f.words i) (slot_at f.words j) (slot_at f.words k) c e)) y)
            (λ m. on_eq i j
            (λ q. ap (λ (n : ℕ). twins w f n k) q ∙ y)
            (λ q. twins_trans i j k (twins_sym i j ∙ clash_twins j i (omega arith) l (clash_shared (slot_at f.words j) (slot_at f.words i) (slot_at f.words k) e c)) y))

  -- Where none is of equal page and version with k's, none conflicts with k.
  pub none_clashes :
      (k : ℕ)
      → some_below k (λ i. clash (slot_at f.words i) (slot_at f.words k)) ≡ false
      → some_below k (λ i. clash (slot_at f.words i) (slot_at f.words k) && not (twins w f i k)) ≡ false
  none_clashes k none =
      some_none _ k (λ i l. rw (some_not_at (λ i. clash (slot_at f.words i) (slot_at f.words k)) k i none l))

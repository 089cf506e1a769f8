-- What the definitions over the slot table say as propositions.
use Prim.Native.Nat.{ℕ, zero, suc, ◌≤◌, ◌<◌}
use Rattle.std.proofs.Common.{arith, ◌∙◌, subst}
use Rattle.std.specs.Prelude.{◌≡◌, ◌↔◌, Bool, true, cond, ltb, eqb}
use Rattle.std.proofs.Math.Path.{refl, sym, ap}
use borrow.Author.Tests.{ltb-true, ltb-false, lt-ltb, eqb-true, eqb-false, eq-eqb}
use Rattle.bounded.specs.Below.{some_below}
use Rattle.bounded.specs.Choice.{on_test, never, both, both_left, both_right}
use Rattle.bounded.specs.BelowLaws.{below_suc, all_at, some_at, some_of, first_passes, first_found, first_none_before}
use Rattle.record.specs.declared.Record.{Record}
use Rattle.record.specs.Slot.{Slot}
use Rattle.std.specs.Prelude.{None, Some}
use Rattle.record.specs.SlotLaws.{holds_exactly, holds_one}
use Rattle.record.specs.Slot.{slot_sound, record_sound, holds, some_record}
use Rattle.table.specs.Table.{table_sound, of_page, of_version, clash, some_clash, has_record, lowest_slot, has_version, above, better, raised, highest, version_in}

-- two slots' contents never both blank and a record
pub blank_holds : {s : Slot} {r : Record} → s ≡ None → s ≡ Some r → ⊥
blank_holds e h = let z : ◌≡◌ {A = ℕ} 0 1 = cc in omega arith

-- a slot that holds a record which passes
pub holds_of : (f : Record → Bool) {s : Slot} {r : Record} → s ≡ Some r → f r ≡ true → holds f s ≡ true
holds_of f {s} {r} e h = (holds_exactly f s).1 (r, e, h)

pub of_version_lem : (p v : ℕ) (r : Record) → (of_version p v r ≡ true) ↔ ((r.p ≡ p) × (r.v ≡ v))
unfolding of_version
of_version_lem p v r = (
  λ e. (eqb-true r.p p (both_left (eqb r.p p) (eqb r.v v) e), eqb-true r.v v (both_right (eqb r.p p) (eqb r.v v) e)),
  λ w. both (eq-eqb r.p p w.0) (eq-eqb r.v v w.1),
)

-- two slots "with equal page and version", as a proposition
pub clash_exactly : (x y : Slot) → (clash x y ≡ true) ↔ ((a : Record) × (b : Record) × (x ≡ Some a) × (y ≡ Some b) × (a.p ≡ b.p) × (a.v ≡ b.v))
unfolding clash
clash_exactly x None = (λ e. absurd (never refl (sym e)), λ w. absurd (blank_holds refl w.3))
clash_exactly x (Some b) = (
  λ e. let h = (holds_exactly (of_version b.p b.v) x).0 e in
      let q = (of_version_lem b.p b.v h.0).0 h.2 in
      (h.0, b, h.1, refl, q.0, q.1),
  λ w. let r = holds_one refl w.3 in
      holds_of (of_version b.p b.v) w.2 ((of_version_lem b.p b.v w.0).1 (w.4 ∙ ap (λ (x : Record). x.p) (sym r), w.5 ∙ ap (λ (x : Record). x.v) (sym r))),
)

module _ (t : ℕ → Slot) where
  -- "a slot neither blank nor sound": there is none
  pub sound_at : (P S k : ℕ) {r : Record} → table_sound P S t ≡ true → k < S → t k ≡ Some r → record_sound P r ≡ true
  unfolding table_sound slot_sound
  sound_at P S k s h e = rw e at (all_at (λ k. slot_sound P (t k)) S k s h)

  -- ---- the highest record

  module _ (p : ℕ) where
    -- What `highest n t p` is: blank, and no slot below n holds a record of p; or a record of p in a slot below n, and none is higher.
    pub data HighestIs (n : ℕ) : Slot → Type 0 where
      none : ((k : ℕ) (r : Record) → k < n → t k ≡ Some r → r.p ≡ p → ⊥) → HighestIs n None
      some :
          (k : ℕ) (r : Record)
          → k < n
          → t k ≡ Some r
          → r.p ≡ p
          → ((j : ℕ) (q : Record) → j < n → t j ≡ Some q → q.p ≡ p → q.v ≤ r.v)
          → HighestIs n (Some r)

    -- a slot that holds no record of p changes nothing
    not_of_page : (n : ℕ) {best : Slot} → HighestIs n best → ((r : Record) → t n ≡ Some r → r.p ≡ p → ⊥) → HighestIs (suc n) best
    not_of_page n (none h) other =
        none (λ k r l e q. below_suc k n l (λ b. h k r b e q) (λ b. other r (ap t (sym b) ∙ e) q))
    not_of_page n (some k r l e q top) other =
        some k r (omega arith) e q (λ j s m f g. below_suc j n m (λ b. top j s b f g) (λ b. absurd (other s (ap t (sym b) ∙ f) g)))

    -- the record in one slot has one version
    one_version : (n j : ℕ) (s r : Record) → t j ≡ Some s → j ≡ n → t n ≡ Some r → s.v ≡ r.v
    unfolding version_in
    one_version n j s r f b e = let i : Some s ≡ Some r = sym f ∙ ap t b ∙ e in ap version_in i

    -- one slot more, which holds a record of p
    one_of_page : (n : ℕ) {best : Slot} → HighestIs n best → (r : Record) → t n ≡ Some r → r.p ≡ p → HighestIs (suc n) (cond (above best r) (Some r) best)
    unfolding above
    one_of_page n (none h) r e q =
        some n r (omega arith) e q
        (λ j s m f g. below_suc j n m (λ b. absurd (h j s b f g)) (λ b. let i = one_version n j s r f b e in omega arith))
    one_of_page n (some k a l ea qa top) r e q =
        on_test (ltb a.v r.v)
        (λ c. rw c
        (some n r (omega arith) e q
        (λ j s m f g. below_suc j n m
        (λ b. let i = top j s b f g in let u = ltb-true a.v r.v c in omega arith)
        (λ b. let i = one_version n j s r f b e in omega arith))))
        (λ c. rw c
        (some k a (omega arith) ea qa
        (λ j s m f g. below_suc j n m
        (λ b. top j s b f g)
        (λ b. let i = one_version n j s r f b e in let u = ltb-false a.v r.v c in omega arith))))

    one_more_lem : (n : ℕ) (best : Slot) → HighestIs n best → (s : Slot) → t n ≡ s → HighestIs (suc n) (cond (holds (better p best) s) s best)
    unfolding holds better of_page
    one_more_lem n best i None e = not_of_page n i (λ r f q. blank_holds e f)
    one_more_lem n best i (Some r) e =
        on_test (eqb r.p p)
        (λ c. rw c (one_of_page n i r e (eqb-true r.p p c)))
        (λ c. rw c (not_of_page n i (λ a f q. eqb-false r.p p c (pages_equal a f ∙ q))))
      where
        pages_equal : (a : Record) → t n ≡ Some a → r.p ≡ a.p
        pages_equal a f = let i : Some r ≡ Some a = sym e ∙ f in let z : r ≡ a = cc in ap (λ (x : Record). x.p) z

    -- "the highest record is a record of its page and none is higher; it exists exactly where the page has a record"
    pub highest_is : (n : ℕ) → HighestIs n (highest n t p)
    unfolding highest raised
    highest_is zero = none (λ k r l e q. omega arith)
    highest_is (suc n) = one_more_lem n (highest n t p) (highest_is n) (t n) refl

    pub highest_held : (S : ℕ) {s : Slot} → HighestIs S s → {r : Record} → s ≡ Some r → (k : ℕ) × (k < S) × (t k ≡ Some r)
    highest_held S (none h) e = absurd (blank_holds refl e)
    highest_held S (some k r l e q top) f = (k, l, e ∙ f)

    pub highest_page : (S : ℕ) {s : Slot} → HighestIs S s → {r : Record} → s ≡ Some r → r.p ≡ p
    highest_page S (none h) e = absurd (blank_holds refl e)
    highest_page S (some k a l e q top) {r} f = let z : a ≡ r = cc in ap (λ (x : Record). x.p) (sym z) ∙ q

    pub highest_above : (S : ℕ) {s : Slot} → HighestIs S s → {r : Record} → s ≡ Some r → (j : ℕ) (q : Record) → j < S → t j ≡ Some q → q.p ≡ p → q.v ≤ r.v
    highest_above S (none h) e j q l f g = absurd (blank_holds refl e)
    highest_above S (some k a b e c top) {r} f j q l g h =
        let z : a ≡ r = cc in subst (λ (x : Record). q.v ≤ x.v) z (top j q l g h)

    -- a page with a record, as a proposition
    pub has_record_lem : (S : ℕ) → (has_record S t p ≡ true) ↔ ((k : ℕ) × (r : Record) × (k < S) × (t k ≡ Some r) × (r.p ≡ p))
    unfolding has_record some_record of_page
    has_record_lem S = (
      λ e. let w = some_at (λ k. holds (of_page p) (t k)) S e in
          let h = (holds_exactly (of_page p) (t w.0)).0 w.2 in
          (w.0, h.0, w.1, h.1, eqb-true h.0.p p h.2),
      λ w. some_of (λ k. holds (of_page p) (t k)) S w.0 w.2 (holds_of (of_page p) w.3 (eq-eqb w.1.p p w.4)),
    )

    pub highest_exists : (S : ℕ) → (has_record S t p ≡ true) ↔ ((r : Record) × (highest S t p ≡ Some r))
    highest_exists S = (
      λ e. let w = (has_record_lem S).0 e in found (highest S t p) (highest_is S) w.0 w.1 w.2 w.3 w.4,
      λ w. let h = highest_held S (highest_is S) w.1 in (has_record_lem S).1 (h.0, w.0, h.1, h.2, highest_page S (highest_is S) w.1),
    )
      where
        found : (s : Slot) → HighestIs S s → (k : ℕ) (a : Record) → k < S → t k ≡ Some a → a.p ≡ p → (r : Record) × (s ≡ Some r)
        found None (none h) k a l e q = absurd (h k a l e q)
        found (Some r) i k a l e q = (r, refl)

  -- ---- a page at a version

  -- "the lowest slot holding the page at" a version: where there is one, it holds such a record and no lower slot does
  pub lowest_holds : (S p v : ℕ) → lowest_slot S t p v < S → (r : Record) × (t (lowest_slot S t p v) ≡ Some r) × (r.p ≡ p) × (r.v ≡ v)
  unfolding lowest_slot
  lowest_holds S p v l =
      let h = (holds_exactly (of_version p v) (t (lowest_slot S t p v))).0 (first_passes (λ k. holds (of_version p v) (t k)) S l) in
      let q = (of_version_lem p v h.0).0 h.2 in
      (h.0, h.1, q.0, q.1)

  pub lowest_first : (S p v k : ℕ) (r : Record) → k < lowest_slot S t p v → t k ≡ Some r → r.p ≡ p → r.v ≡ v → ⊥
  unfolding lowest_slot
  lowest_first S p v k r l e q u =
      never (holds_of (of_version p v) e ((of_version_lem p v r).1 (q, u))) (first_none_before (λ k. holds (of_version p v) (t k)) S k l)

  -- "no record with the committed version", as a proposition
  pub has_version_lem : (S p v : ℕ) → (has_version S t p v ≡ true) ↔ ((k : ℕ) × (r : Record) × (k < S) × (t k ≡ Some r) × (r.p ≡ p) × (r.v ≡ v))
  unfolding has_version lowest_slot
  has_version_lem S p v = (
    λ e. let l = ltb-true (lowest_slot S t p v) S e in
        let w = lowest_holds S p v l in
        (lowest_slot S t p v, w.0, l, w.1, w.2, w.3),
    λ w. lt-ltb (lowest_slot S t p v) S
        (first_found (λ k. holds (of_version p v) (t k)) S
        (some_of (λ k. holds (of_version p v) (t k)) S w.0 w.2 (holds_of (of_version p v) w.3 ((of_version_lem p v w.1).1 (w.4, w.5))))),
  )

  -- "two records with equal page and version": in two slots
  pub some_clash_lem :
      (S : ℕ)
      → (some_clash S t ≡ true)
      ↔ ((j : ℕ) × (k : ℕ) × (a : Record) × (b : Record) × (j < k) × (k < S) × (t j ≡ Some a) × (t k ≡ Some b) × (a.p ≡ b.p) × (a.v ≡ b.v))
  unfolding some_clash
  some_clash_lem S = (
    λ e. let w = some_at (λ k. some_below k (λ j. clash (t j) (t k))) S e in
        let u = some_at (λ j. clash (t j) (t w.0)) w.0 w.2 in
        let c = (clash_exactly (t u.0) (t w.0)).0 u.2 in
        (u.0, w.0, c.0, c.1, u.1, w.1, c.2, c.3, c.4, c.5),
    λ w. some_of (λ k. some_below k (λ j. clash (t j) (t k))) S w.1 w.5
        (some_of (λ j. clash (t j) (t w.1)) w.1 w.0 w.4 ((clash_exactly (t w.0) (t w.1)).1 (w.2, w.3, w.6, w.7, w.8, w.9))),
  )

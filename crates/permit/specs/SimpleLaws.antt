-- Records without a back pointer as the code decides them: what one record and one search settle.
use Rattle.std.specs.Prelude.{ℕ, ◌≤◌, ◌<◌, ◌≡◌, refl, Bool, true, false, not, ◌&&◌, ltb, eqb}
use Rattle.std.proofs.Common.{sym, ◌∙◌}
use Rattle.std.proofs.Math.Path.{ap}
use borrow.Author.Tests.{eq-eqb, ne_eqb, lt-ltb, le-ltb}
use Rattle.bounded.specs.Below.{some_below}
use Rattle.bounded.specs.BelowLaws.{some_of}
use Rattle.record.specs.declared.Record.{Record}
use Rattle.record.specs.Slot.{Slot}
use Rattle.record.specs.Slot.{holds, some_record}
use Rattle.state.specs.declared.PageState.{PageState}
use Rattle.rules.specs.Permission.{is_obsolete, is_exposed, is_current}
use Rattle.rules.specs.Simple.{simple_may_erase_record, buried_by, would_bury}

-- ---- what may be erased

module _ (st : ℕ → PageState) (r : Record) where
  pub simple_obsolete : is_obsolete st r ≡ true → simple_may_erase_record st r ≡ true
  unfolding simple_may_erase_record
  simple_obsolete e = rw e

  pub simple_exposed : is_obsolete st r ≡ false → is_exposed st r ≡ true → simple_may_erase_record st r ≡ not (is_current st r)
  unfolding simple_may_erase_record
  simple_exposed e h = rw (e, h)

  pub simple_committed : is_obsolete st r ≡ false → is_exposed st r ≡ false → simple_may_erase_record st r ≡ false
  unfolding simple_may_erase_record
  simple_committed e h = rw (e, h)

-- ---- what a write buries

never_both : (b : Bool) → (b && false) ≡ false
never_both true = refl
never_both false = refl

-- the record's own page and version say nothing
pub below_it : (p v : ℕ) (J : Record) → v ≤ J.v → (eqb J.p p && ltb J.v v) ≡ false
below_it p v J h = rw (le-ltb J.v v h) (never_both (eqb J.p p))

pub other_it : (p v : ℕ) (J : Record) → ¬ (J.p ≡ p) → (eqb J.p p && ltb J.v v) ≡ false
other_it p v J h = rw (ne_eqb J.p p h)

module _ (st : ℕ → PageState) (p v : ℕ) (J : Record) where
  pub hidden_stays : is_exposed st J ≡ false → buried_by st p v J ≡ false
  unfolding buried_by
  hidden_stays e = rw e

  pub buried_itself : is_exposed st J ≡ true → J.p ≡ p → J.v < v → buried_by st p v J ≡ true
  unfolding buried_by
  buried_itself e q h = rw (e, eq-eqb J.p p q, lt-ltb J.v v h)

  pub other_page : (eqb J.p p && ltb J.v v) ≡ false → ¬ (J.np ≡ p) → buried_by st p v J ≡ false
  unfolding buried_by
  other_page e h = rw (e, ne_eqb J.np p h) (never_both (is_exposed st J))

  pub buried_next : is_exposed st J ≡ true → (eqb J.p p && ltb J.v v) ≡ false → J.np ≡ p → buried_by st p v J ≡ ltb J.nv v
  unfolding buried_by
  buried_next x e q = rw (x, e, eq-eqb J.np p q)

-- the search over the slots, at the version that was read
module _ (S : ℕ) (t : ℕ → Slot) (st : ℕ → PageState) (p v : ℕ) (e : v ≡ (st p).used) where
  at_used : some_below S (λ k. holds (buried_by st p v) (t k)) ≡ would_bury S t st p
  unfolding would_bury some_record
  at_used = ap (λ (n : ℕ). some_below S (λ k. holds (buried_by st p n) (t k))) e

  pub some_buried : (k : ℕ) → k < S → holds (buried_by st p v) (t k) ≡ true → would_bury S t st p ≡ true
  some_buried k h f = sym at_used ∙ some_of (λ j. holds (buried_by st p v) (t j)) S k h f

  pub none_buried : (k : ℕ) → k ≡ S → some_below k (λ j. holds (buried_by st p v) (t j)) ≡ false → would_bury S t st p ≡ false
  none_buried k q f = sym at_used ∙ ap (λ (n : ℕ). some_below n (λ j. holds (buried_by st p v) (t j))) (sym q) ∙ f

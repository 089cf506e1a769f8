-- Under the invariant of records with a back pointer recovery finds the committed versions: straddlers tell the links of committed records from those of exposed ones.
use Rattle.std.specs.Prelude.{ℕ, ◌<◌, ◌≡◌, refl, List, ◌⊎◌, true, false, cond}
use Rattle.std.proofs.Common.{arith, ◌∙◌, inl, inr}
use Rattle.std.proofs.Math.Path.{ap}
use Rattle.bounded.specs.Choice.{on_test}
use Rattle.record.specs.declared.Record.{Record}
use Rattle.record.specs.Slot.{Slot}
use Rattle.record.specs.Slot.{straddles}
use Rattle.record.specs.SlotLaws.{Straddles, straddles_facts, straddles_test, some_record_at, some_record_of}
use Rattle.table.specs.Table.{version_in}
use Rattle.follow.specs.declared.Verdict.{Verdict}
use Rattle.follow.specs.declared.Verdict.TheVariants as says
use Rattle.rules.specs.Verdict.{is_straddled, link_verdict, slot_verdict, verdict}
use Rattle.rules.specs.Recover.{walk_of, back_pointer, committed_by, committed_of}
use Rattle.protocol.specs.View.{InSlots}
use Rattle.protocol.specs.BackPointer.{AheadOrStraddled, Core}
use Rattle.protocol.proofs.Highest.{Top, link_cases}
use Rattle.protocol.proofs.Walks.{Linked, Judged, Green, Red, coloured, walk_green, walk_red}

module _ (S : ℕ) (t : ℕ → Slot) (bytes : ℕ → List ℕ) where
  -- a record straddles J's link
  abbrev Straddled : Record → Type 0
  Straddled J = (K : Record) × (d : List ℕ) × InSlots S t bytes K d × Straddles K J

  straddled_test : (J : Record) → Straddled J → is_straddled S t J ≡ true
  unfolding is_straddled
  straddled_test J w =
      some_record_of S t (λ K. straddles K J) (w.2.0, w.0, w.2.1, w.2.2, straddles_test w.0 J w.3)

  unstraddled_test : (J : Record) → (Straddled J → ⊥) → is_straddled S t J ≡ false
  unfolding is_straddled
  unstraddled_test J none =
      on_test (is_straddled S t J)
      (λ e. let w = some_record_at S t (λ K. straddles K J) e in
      absurd (none (w.1, bytes w.0, (w.0, w.2, w.3, refl), straddles_facts w.1 J w.4)))
      (λ e. e)

  -- the verdict of a link below the next page's highest version: by straddlers
  abbrev older : Record → Verdict
  older J = cond (is_straddled S t J) says.Uncommitted says.Committed

  older_straddled : (J : Record) → Straddled J → older J ≡ says.Uncommitted
  older_straddled J w = rw (straddled_test J w)

  older_clear : (J : Record) → (Straddled J → ⊥) → older J ≡ says.Committed
  older_clear J none = rw (unstraddled_test J none)

  -- a page's verdict is that of its highest record's link
  verdict_top : (p : ℕ) (r : Record) → Top S t bytes p r → verdict S t p ≡ link_cases S t bytes (older r) r
  unfolding verdict slot_verdict link_verdict
  verdict_top p r top = rw top.found

module _ {P S : ℕ} {t : ℕ → Slot} {bytes : ℕ → List ℕ} {comm : ℕ → ℕ} {kept : ℕ → List ℕ} (core : Core (InSlots S t bytes) comm P kept) where
  open core use {shared, own}
  open own use {exposed_back, committed_clear, exposed_link}

  module _ (p : ℕ) (r s : Record) (l : Linked S t bytes p r s) (exposed : comm r.p < r.v) where
    link : AheadOrStraddled (InSlots S t bytes) comm r
    link = exposed_link r l.here.contents l.here.stored exposed

    -- an exposed record whose link is below the next page's highest version is straddled: by that page's highest record where it is exposed
    exposed_straddled : r.nv < s.v → Straddled S t bytes r
    exposed_straddled m = by link
      where
        by : AheadOrStraddled (InSlots S t bytes) comm r → Straddled S t bytes r
        by (inl a) =
            let e = ap comm l.there.of_page_lem in
            let c = exposed_back s l.there.contents l.there.stored (omega arith) in
            (s, l.there.contents, l.there.stored, record { at_next = l.there.of_page_lem; above_c = omega arith; below_v = m })
        by (inr w) = (w.0, w.1, w.2, w.4)

    -- … and one whose link is at it links to an exposed record
    exposed_next : r.nv ≡ s.v → comm r.np < s.v
    exposed_next e = by link
      where
        by : AheadOrStraddled (InSlots S t bytes) comm r → comm r.np < s.v
        by (inl a) = omega arith
        by (inr w) =
            let a = l.there.none_higher w.0 w.1 w.2 w.4.at_next in
            let b = w.4.below_v in
            absurd (omega arith)

  -- what recovery's walks need of the clauses
  pub judged : Judged S t bytes comm (verdict S t) (older S t bytes)
  judged =
      record {
        by_cases = verdict_top S t bytes;
        committed_older = λ p r s l e m. older_clear S t bytes r (λ w. committed_clear r w.0 l.here.contents w.1 l.here.stored w.2 e w.3);
        exposed_older = λ p r s l x m. older_straddled S t bytes r (exposed_straddled p r s l x m);
        exposed_equal = exposed_next;
      }

  -- recovery finds the committed version
  pub committed_found_lem : (p : ℕ) → p < P → committed_of P S t p ≡ comm p
  unfolding walk_of committed_of committed_by version_in back_pointer
  committed_found_lem p h = by (coloured shared p h)
    where
      by : Green shared p ⊎ ((k : ℕ) × Red shared k p) → committed_of P S t p ≡ comm p
      by (inl g) = rw (committed_of, walk_green shared judged p g, g.is_top.found) (g.committed ∙ ap comm g.is_top.of_page_lem)
      by (inr w) =
          let g = w.1 in
          rw (committed_of, walk_red shared judged p w.0 g, g.is_top.found)
          (exposed_back g.last g.is_top.contents g.is_top.stored g.exposed ∙ ap comm g.is_top.of_page_lem)

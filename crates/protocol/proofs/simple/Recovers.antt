-- Under the invariant of records without a back pointer recovery finds the committed versions: a link below the next page's highest version is a committed record's,
-- and below an exposed highest record the next is the committed one.
use Rattle.std.specs.Prelude.{ℕ, ◌<◌, ◌≡◌, refl, List, ◌⊎◌, true, false}
use Rattle.std.proofs.Common.{arith, sym, ◌∙◌, inl, inr}
use Rattle.std.proofs.Math.Path.{ap}
use Rattle.bounded.specs.Below.{some_below}
use Rattle.bounded.specs.Choice.{on_lt}
use Rattle.record.specs.declared.Record.{Record}
use Rattle.record.specs.Slot.{Slot}
use Rattle.std.specs.Prelude.{Some}
use Rattle.record.specs.Slot.{is_blank}
use Rattle.state.specs.Change.{at_rest}
use Rattle.table.specs.Table.{version_in, used_of}
use Rattle.follow.specs.declared.Verdict.TheVariants as says
use Rattle.follow.specs.Follow.{is_astray}
use Rattle.rules.specs.Simple.{simple_link_verdict, simple_slot_verdict, simple_verdict, simple_walk_of, second, simple_committed_slot, committed_slot_of, has_committed, simple_recovered}
use Rattle.rules.specs.laws.Simple.{BelowHighest}
use Rattle.rules.proofs.laws.Simple.{second_held, second_above, second_exists}
use Rattle.protocol.specs.View.{InSlots, record_view}
use Rattle.protocol.specs.Shared.{SharedCore}
use Rattle.protocol.proofs.Highest.{Top, version_top, link_cases}
use Rattle.protocol.proofs.Walks.{Judged, Green, Red, coloured, walk_green, walk_red, none_astray}
use Rattle.protocol.specs.simple.Core.{SimpleCore, shared_seen}

module _ {P S : ℕ} {t : ℕ → Slot} {bytes : ℕ → List ℕ} {comm : ℕ → ℕ} {kept : ℕ → List ℕ} (core : SimpleCore (InSlots S t bytes) comm P kept) where
  open core use {own}
  open own use {exposed_highest, exposed_ahead}

  -- the shared clauses, as the walks take them
  shared : SharedCore record_view (InSlots S t bytes) comm P kept
  shared = shared_seen core.shared

  -- a page's verdict is that of its highest record's link
  verdict_top : (p : ℕ) (r : Record) → Top S t bytes p r → simple_verdict S t p ≡ link_cases S t bytes says.Committed r
  unfolding simple_verdict simple_slot_verdict simple_link_verdict
  verdict_top p r top = rw top.found

  -- what recovery's walks need of the clauses: no exposed record links below the next page's highest version
  judged : Judged S t bytes comm (simple_verdict S t) (λ r. says.Committed)
  judged =
      record {
        by_cases = verdict_top;
        committed_older = λ p r s l e m. refl;
        exposed_older = λ p r s l x m. absurd
            (let a = (exposed_ahead r l.here.contents l.here.stored x).1 s l.there.contents l.there.stored l.there.of_page_lem in omega arith);
        exposed_equal = λ p r s l x e. let a = (exposed_ahead r l.here.contents l.here.stored x).0 in omega arith;
      }

  -- no walk runs astray
  pub simple_walks_end : some_below P (λ p. is_astray (simple_walk_of P S t p).end) ≡ false
  unfolding simple_walk_of
  simple_walks_end = none_astray shared judged

  -- below an exposed highest record the second highest is the committed one
  second_committed : (p : ℕ) (k : ℕ) → Red shared k p → (r : Record) × (second S t p ≡ Some r) × (r.v ≡ comm p)
  second_committed p k g =
      let c = core.shared.committed_kept p g.below in
      let e = ap comm g.is_top.of_page_lem in
      let x = g.exposed in
      let v = version_top S t bytes p g.last g.is_top in
      let at = c.2.1 in
      let there : BelowHighest S t p c.0 = (c.1.0, c.1.1, c.1.2, c.2.0, omega arith) in
      let f = (second_exists S t p).1 (c.0, there) in
      let r = f.0 in
      let h = second_held S t p r f.1 in
      let reach = second_above S t p r c.0 f.1 there in
      let below = h.4 in
      let same = ap comm h.3 in (
        r,
        f.1,
        on_lt (comm p) r.v
            (λ l. absurd
            (let a = exposed_highest r g.last (bytes h.0) g.is_top.contents (h.0, h.1, h.2, refl) g.is_top.stored (omega arith) (g.is_top.of_page_lem ∙ sym h.3) in omega arith))
            (λ l. omega arith),
      )

  -- recovery finds the record that holds the committed version
  pub simple_committed_found : (p : ℕ) → p < P → (r : Record) × (committed_slot_of P S t p ≡ Some r) × (r.v ≡ comm p)
  unfolding committed_slot_of simple_committed_slot simple_walk_of
  simple_committed_found p h = by (coloured shared p h)
    where
      by : Green shared p ⊎ ((k : ℕ) × Red shared k p) → (r : Record) × (committed_slot_of P S t p ≡ Some r) × (r.v ≡ comm p)
      by (inl g) = (g.last, rw (walk_green shared judged p g) g.is_top.found, g.committed ∙ ap comm g.is_top.of_page_lem)
      by (inr w) =
          let c = second_committed p w.0 w.1 in (c.0, rw (walk_red shared judged p w.0 w.1) c.1, c.2)

  -- not 14
  pub simple_has_committed : (p : ℕ) → p < P → has_committed P S t p ≡ true
  unfolding has_committed is_blank
  simple_has_committed p h = let c = simple_committed_found p h in rw c.1

  -- the committed version that recovery finds
  pub simple_version_found : (p : ℕ) → p < P → version_in (committed_slot_of P S t p) ≡ comm p
  unfolding version_in
  simple_version_found p h = let c = simple_committed_found p h in rw c.1 c.2

  -- the state that recover fills
  pub simple_recovered_is : (p : ℕ) → p < P → simple_recovered P S t p ≡ at_rest (comm p) (used_of S t p)
  unfolding simple_recovered
  simple_recovered_is p h = rw (simple_version_found p h)

-- Where the open rings match the state: a page's ring is its cycle, and what is entered for a page.
use Prim.Native.Nat.{ℕ, zero, suc, ◌+◌, ◌<◌}
use Rattle.std.proofs.Common.{arith, add-one, sym, ◌∙◌, subst, lt-ltb, le-ltb}
use Rattle.std.specs.Prelude.{◌≡◌, List, true, not, eqb, length, get_or}
use Rattle.std.proofs.Math.Path.{refl, ap}
use Rattle.bounded.specs.Limits.{no_number}
use Rattle.bounded.specs.Choice.{on_lt, same_test}
use Rattle.state.specs.declared.PageState.{PageState}
use Rattle.state.specs.State.{in_flight, is_written}
use Rattle.state.specs.StateLaws.{StateFacts}
use Rattle.state.specs.Cycle.{along, on_cycle}
use Rattle.state.specs.Change.{following}
use Rattle.state.specs.CycleLaws.{Flies, on_cycle_of, on_cycle_at, on_cycle_sym, on_cycle_trans}
use Rattle.atomicity.specs.Model.{Entry, entry_page, in_ring}
use Rattle.atomicity.specs.rings.Match.{pages_of, in_rings, ring_of, IsEntered, RunsRound, RingMatches, RingsMatch}
use Rattle.atomicity.proofs.rings.Laws.{in_ring_place, place_in_ring, entry_in_ring, ring_in_rings, ring_of_page}

-- ---- the following page of a list

following_inner : (pages : List ℕ) (i : ℕ) → suc i < length pages → following pages i ≡ get_or pages (suc i) 0
unfolding following
following_inner pages i l = rw (add-one, lt-ltb (suc i) (length pages) l)

-- it is listed
pub following_place : (pages : List ℕ) (i : ℕ) → i < length pages → (j : ℕ) × (j < length pages) × (get_or pages j 0 ≡ following pages i)
unfolding following
following_place pages i l =
    on_lt (i + 1) (length pages)
    (λ h. (i + 1, h, rw (lt-ltb (i + 1) (length pages) h)))
    (λ h. (0, omega arith, rw (le-ltb (i + 1) (length pages) h)))

-- ---- a ring that matches is the cycle of each of its pages

module _ (P : ℕ) (st : ℕ → PageState) (ring : List Entry) (runs : RunsRound P st (pages_of ring)) where
  pub ring_flies : (p : ℕ) → in_ring p ring ≡ true → Flies P st p
  ring_flies p e =
      let w = in_ring_place p ring e in
      subst (λ (x : ℕ). Flies P st x) w.2 (runs.flying w.0 w.1)

  -- closed under next
  ring_next : (p : ℕ) → in_ring p ring ≡ true → in_ring (st p).next ring ≡ true
  ring_next p e =
      let w = in_ring_place p ring e in
      let f = following_place (pages_of ring) w.0 w.1 in
      place_in_ring (st p).next ring f.0 f.1
      (f.2 ∙ sym (runs.linked w.0 w.1) ∙ ap (λ (x : ℕ). (st x).next) w.2)

  ring_along : (p k : ℕ) → in_ring p ring ≡ true → in_ring (along st p k) ring ≡ true
  unfolding along
  ring_along p zero e = e
  ring_along p (suc k) e = ring_next (along st p k) (ring_along p k e)

  -- the first page's walk is the list
  along_list : (i : ℕ) → i < length (pages_of ring) → along st (get_or (pages_of ring) 0 0) i ≡ get_or (pages_of ring) i 0
  unfolding along
  along_list zero l = refl
  along_list (suc i) l =
      ap (λ (x : ℕ). (st x).next) (along_list i (omega arith))
      ∙ runs.linked i (omega arith)
      ∙ following_inner (pages_of ring) i l

  ring_cycle : StateFacts P st → (p : ℕ) → in_ring p ring ≡ true → (q : ℕ) → in_ring q ring ≡ on_cycle P st p q
  ring_cycle sound p e q =
      same_test (in_ring q ring) (on_cycle P st p q)
      (λ h. on_cycle_trans P st sound p first q (ring_flies p e) (on_cycle_sym P st sound first p flies (from_first p e)) (from_first q h))
      (λ h. let w = on_cycle_at P st sound p (ring_flies p e) q h in
      subst (λ (x : ℕ). in_ring x ring ≡ true) w.1 (ring_along p w.0 e))
    where
      first : ℕ
      first = get_or (pages_of ring) 0 0

      flies : Flies P st first
      flies = runs.flying 0 runs.not_empty

      from_first : (r : ℕ) → in_ring r ring ≡ true → on_cycle P st first r ≡ true
      from_first r h =
          let w = in_ring_place r ring h in
          on_cycle_of P st sound first flies w.0 r (along_list w.0 w.1 ∙ w.2)

-- ---- a ring goes by its own pages' states

-- next runs round pages whose next pages stay
pub runs_same :
    (P : ℕ) (st st' : ℕ → PageState) (pages : List ℕ)
    → ((i : ℕ) → i < length pages → (st' (get_or pages i 0)).next ≡ (st (get_or pages i 0)).next)
    → RunsRound P st pages
    → RunsRound P st' pages
unfolding in_flight
runs_same P st st' pages h runs = record {
  not_empty = runs.not_empty;
  flying = λ i l. record { below = (runs.flying i l).below; flies = ap (λ (n : ℕ). not (eqb n no_number)) (h i l) ∙ (runs.flying i l).flies };
  no_repeats_lem = runs.no_repeats_lem;
  linked = λ i l. h i l ∙ runs.linked i l;
}

pub ring_same :
    (P : ℕ) (st st' : ℕ → PageState) (ring : List Entry)
    → ((p : ℕ) → in_ring p ring ≡ true → st' p ≡ st p)
    → RingMatches P st ring
    → RingMatches P st' ring
ring_same P st st' ring h m = record {
  runs = runs_same P st st' (pages_of ring) (λ i l. ap (λ (s : PageState). s.next) (h (get_or (pages_of ring) i 0) (place_in_ring (get_or (pages_of ring) i 0) ring i l refl))) m.runs;
  written = λ e s. ap is_written (h (entry_page e) (entry_in_ring e ring s)) ∙ m.written e s;
}

-- ---- the open rings

module _ (P : ℕ) (st : ℕ → PageState) (rings : List (List Entry)) (match : RingsMatch P st rings) where
  -- every page of an open ring is in flight
  pub rings_fly : (p : ℕ) → in_rings p rings ≡ true → Flies P st p
  rings_fly p e =
      let w = ring_of_page p rings e in
      ring_flies P st (ring_of p rings) (match.each (ring_of p rings) w.0).runs p w.1

  -- the pages below P decide
  pub rings_match_cong : (st' : ℕ → PageState) → ((q : ℕ) → q < P → st' q ≡ st q) → RingsMatch P st' rings
  rings_match_cong st' h = record {
    each = λ ring m. ring_same P st st' ring (λ q e. h q (ring_flies P st ring (match.each ring m).runs q e).below) (match.each ring m);
    apart = match.apart;
    covered = λ q f. match.covered q (record { below = f.below; flies = ap in_flight (sym (h q f.below)) ∙ f.flies });
  }

  pub ring_of_matches : (p : ℕ) → Flies P st p → RingMatches P st (ring_of p rings)
  ring_of_matches p f = match.each (ring_of p rings) (ring_of_page p rings (match.covered p f)).0

  pub ring_of_has : (p : ℕ) → Flies P st p → in_ring p (ring_of p rings) ≡ true
  ring_of_has p f = (ring_of_page p rings (match.covered p f)).1

  -- the ring of a page in flight has exactly the pages on its cycle
  pub ring_of_cycle : StateFacts P st → (p : ℕ) → Flies P st p → (q : ℕ) → in_ring q (ring_of p rings) ≡ on_cycle P st p q
  ring_of_cycle sound p f q = ring_cycle P st (ring_of p rings) (ring_of_matches p f).runs sound p (ring_of_has p f) q

  -- ---- what is entered for a page

  entered_in_rings : (p : ℕ) (b : List ℕ) → IsEntered rings p b → in_rings p rings ≡ true
  unfolding entry_page
  entered_in_rings p b w = ring_in_rings p w.0 rings w.1 (entry_in_ring (Entry.Entered p b) w.0 w.2)

  pub entered_flies : (p : ℕ) (b : List ℕ) → IsEntered rings p b → Flies P st p
  entered_flies p b w = rings_fly p (entered_in_rings p b w)

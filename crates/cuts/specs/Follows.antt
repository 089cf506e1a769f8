-- The program's buffers follow the run and the reference model, line by line: the flights of the state are the model's open rings, whatever erase the run has, so what is entered and kept of
-- each page is read off the state.
use Rattle.std.specs.Prelude.{ℕ, ◌≤◌, ◌<◌, ◌≡◌, refl, ◌⊎◌, Bool, length, get_or, set, replicate}
use Rattle.std.proofs.Common.{arith, sym, ◌∙◌, inl, inr, length-set, get_or-set_same, get_or-set_other}
use Rattle.std.proofs.Math.Path.{ap, subst}
use mathlib.Core.List.{List, Memᴰ}
use Rattle.std.proofs.Math.Bool.{true, false}
use borrow.Author.Tests.{eq-eqb, ne_eqb}
use Rattle.bounded.specs.Limits.{no_number}
use Rattle.bounded.specs.Choice.{on_eq, on_test, never}
use Rattle.bounded.specs.Entries.{stored_at}
use Rattle.state.specs.declared.PageState.{PageState}
use Rattle.state.specs.State.{in_flight, is_written}
use Rattle.state.specs.StateLaws.{StateFacts, none_rests}
use Rattle.state.specs.CycleLaws.{Flies, on_cycle_refl}
use Rattle.state.specs.Cycle.{on_cycle}
use Rattle.state.specs.Change.{at_rest, completes, completed, committed_page, after_write}
use Rattle.state.specs.CompletionLaws.{completes_at, after_write_done}
use Rattle.atomicity.specs.Model.{Model, Entry, entry_page, has_bytes, enter}
use Rattle.atomicity.specs.rings.Match.{IsEntered, RingsMatch, ring_of}
use Rattle.atomicity.proofs.rings.Laws.{in_ring_entry, ring_of_page}
use Rattle.atomicity.proofs.rings.Cycle.{ring_of_matches, ring_of_cycle, entered_flies}
use Rattle.atomicity.proofs.rings.Write.{write_open_kept, write_open_entered, write_done_own, write_done_cycle, write_done_other, write_done_entered}
use Rattle.ledger.specs.Ledger.{entered_then, kept_then, settled_entered, settled_kept}

-- ---- what is entered for a page, and what is kept

-- n says what is entered for page p in an open ring: nothing, or w bytes that are all n
pub record EnteredAt (w : ℕ) (rings : List (List Entry)) (p n : ℕ) : Type 0 where
  pub nothing : n ≡ no_number → (b : List ℕ) → ¬ IsEntered rings p b
  pub bytes : ¬ (n ≡ no_number) → IsEntered rings p (replicate w n)

module _ (w P : ℕ) where
  abbrev pub EnteredIs : List (List Entry) → (entered : List ℕ) → Type 0
  EnteredIs rings entered = (p : ℕ) → p < P → EnteredAt w rings p (get_or entered p 0)

  abbrev pub KeptIs : (ℕ → List ℕ) → (kept : List ℕ) → Type 0
  KeptIs keeps kept = (p : ℕ) → p < P → keeps p ≡ replicate w (get_or kept p 0)

  module _ (st : ℕ → PageState) where
    module _ (entered : List ℕ) (room : P ≤ length entered) where
      settled_entered_at : (p : ℕ) → p < P → get_or (settled_entered P st entered) p 0 ≡ entered_then (st p) (get_or entered p 0)
      unfolding settled_entered
      settled_entered_at p h = stored_at _ entered P room p h

      -- behind a call that left these rings: it is right of the pages in flight before it is settled
      pub entered_settled :
          (rings : List (List Entry)) → RingsMatch P st rings → ((p : ℕ) → p < P → in_flight (st p) ≡ true → EnteredAt w rings p (get_or entered p 0))
          → EnteredIs rings (settled_entered P st entered)
      unfolding entered_then
      entered_settled rings match flying p h =
          let e = settled_entered_at p h in
          on_test (in_flight (st p))
          (λ y. subst (λ (n : ℕ). EnteredAt w rings p n) (sym (e ∙ rw y)) (flying p h y))
          (λ n. subst (λ (n : ℕ). EnteredAt w rings p n) (sym (e ∙ rw n))
          (record { nothing = λ z b i. never (entered_flies P st rings match p b i).flies n; bytes = λ z. absurd (z refl) }))

    module _ (entered kept : List ℕ) (room : P ≤ length kept) where
      settled_kept_at : (done : Bool) (p : ℕ) → p < P → get_or (settled_kept P done st entered kept) p 0 ≡ kept_then done (st p) (get_or entered p 0) (get_or kept p 0)
      unfolding settled_kept
      settled_kept_at done p h = stored_at _ kept P room p h

      -- where no ring was completed what is kept stays
      pub kept_stays : (keeps : ℕ → List ℕ) → KeptIs keeps kept → KeptIs keeps (settled_kept P false st entered kept)
      unfolding kept_then
      kept_stays keeps k p h = k p h ∙ ap (replicate w) (sym (settled_kept_at false p h))

      -- where one was: of each page what is entered for it and it has left flight, or else what was kept
      pub kept_settled :
          (keeps : ℕ → List ℕ)
          → ((p : ℕ) → p < P → in_flight (st p) ≡ false → ¬ (get_or entered p 0 ≡ no_number) → keeps p ≡ replicate w (get_or entered p 0))
          → ((p : ℕ) → p < P → (in_flight (st p) ≡ true) ⊎ (get_or entered p 0 ≡ no_number) → keeps p ≡ replicate w (get_or kept p 0))
          → KeptIs keeps (settled_kept P true st entered kept)
      unfolding kept_then
      kept_settled keeps left stays p h =
          let e = settled_kept_at true p h in
          on_test (in_flight (st p))
          (λ y. stays p h (inl y) ∙ ap (replicate w) (sym (e ∙ rw y)))
          (λ n. on_eq (get_or entered p 0) no_number
          (λ z. stays p h (inr z) ∙ ap (replicate w) (sym (e ∙ rw (n, eq-eqb (get_or entered p 0) no_number z))))
          (λ z. left p h n z ∙ ap (replicate w) (sym (e ∙ rw (n, ne_eqb (get_or entered p 0) no_number z)))))

  -- it is the states of the P pages that are seen
  pub kept_cong :
      (done : Bool) (st st' : ℕ → PageState) (entered kept : List ℕ) → P ≤ length kept → ((p : ℕ) → p < P → st' p ≡ st p)
      → (keeps : ℕ → List ℕ) → KeptIs keeps (settled_kept P done st entered kept) → KeptIs keeps (settled_kept P done st' entered kept)
  kept_cong done st st' entered kept room same keeps k p h =
      k p h
      ∙ ap (replicate w)
      (settled_kept_at st entered kept room done p h
      ∙ ap (λ (s : PageState). kept_then done s (get_or entered p 0) (get_or kept p 0)) (sym (same p h))
      ∙ sym (settled_kept_at st' entered kept room done p h))

-- ---- a write

module _ (w P : ℕ) (st : ℕ → PageState) (rings : List (List Entry)) (sound : StateFacts P st) (match : RingsMatch P st rings) (page : ℕ) (flies : Flies P st page) (fill : ℕ) (small : ¬ (fill ≡ no_number))
    (keeps : ℕ → List ℕ) (entered kept : List ℕ) (entered_room : P ≤ length entered) (kept_room : P ≤ length kept) (entered_is : EnteredIs w P rings entered) (kept_is : KeptIs w P keeps kept) where
  abbrev then : Model
  then = enter page (replicate w fill) keeps rings

  abbrev holds : List ℕ
  holds = set entered page fill

  own : get_or holds page 0 ≡ fill
  own = get_or-set_same entered page fill 0 (let b = flies.below in omega arith)

  other : (q : ℕ) → ¬ (q ≡ page) → get_or holds q 0 ≡ get_or entered q 0
  other q n = get_or-set_other entered page q fill 0 n

  holds_room : P ≤ length holds
  holds_room = subst (λ (n : ℕ). P ≤ n) (sym (length-set entered page fill)) entered_room

  -- the ring stays open
  module _ (c : completes P st page ≡ false) where
    pub open_entered : (q : ℕ) → q < P → EnteredAt w then.rings q (get_or holds q 0)
    open_entered q h =
        let i = write_open_entered P st rings sound match page flies (replicate w fill) keeps c q in
        on_eq q page
        (λ e.
        let o : get_or holds q 0 ≡ fill = ap (λ (x : ℕ). get_or holds x 0) e ∙ own in
        record { nothing = λ z b n. small (sym o ∙ z); bytes = λ n. (i (replicate w (get_or holds q 0))).1 (inl (e, ap (replicate w) o)) })
        (λ n.
        let o = other q n in
        let was = entered_is q h in
        record {
          nothing = λ z b k. elim ((i b).0 k) [ inl e ↦ absurd (n e.0) | inr e ↦ was.nothing (sym o ∙ z) b e.1 ];
          bytes = λ z. (i (replicate w (get_or holds q 0))).1 (inr (n, subst (λ (x : ℕ). IsEntered rings q (replicate w x)) (sym o) (was.bytes (λ e. z (o ∙ e)))));
        })

    pub open_kept : KeptIs w P then.kept kept
    open_kept q h = ap (λ (k : ℕ → List ℕ). k q) (write_open_kept P st rings sound match page flies (replicate w fill) keeps c) ∙ kept_is q h

  -- the ring is completed
  module _ (c : completes P st page ≡ true) where
    left_flight : (q : ℕ) → on_cycle P st page q ≡ true → in_flight (after_write P st page q) ≡ false
    unfolding completed committed_page at_rest
    left_flight q on = ap in_flight (after_write_done P st sound page flies c q) ∙ rw on (none_rests (committed_page (st q)) refl)

    as_it_was : (q : ℕ) → on_cycle P st page q ≡ false → after_write P st page q ≡ st q
    unfolding completed
    as_it_was q off = after_write_done P st sound page flies c q ∙ rw off

    -- a page in flight is on another cycle, so it is another page
    off_cycle : (q : ℕ) → in_flight (after_write P st page q) ≡ true → on_cycle P st page q ≡ false
    off_cycle q y = on_test (on_cycle P st page q) (λ on. absurd (never y (left_flight q on))) (λ off. off)

    off_other : (q : ℕ) → on_cycle P st page q ≡ false → ¬ (q ≡ page)
    off_other q off e = never (on_cycle_refl P st sound page flies) (ap (on_cycle P st page) (sym e) ∙ off)

    pub done_entered : (q : ℕ) → q < P → in_flight (after_write P st page q) ≡ true → EnteredAt w then.rings q (get_or holds q 0)
    done_entered q h y =
        let off = off_cycle q y in
        let o = other q (off_other q off) in
        let i = write_done_entered P st rings sound match page flies (replicate w fill) keeps c q off in
        let was = entered_is q h in
        record {
          nothing = λ z b k. was.nothing (sym o ∙ z) b ((i b).0 k);
          bytes = λ z. (i (replicate w (get_or holds q 0))).1 (subst (λ (x : ℕ). IsEntered rings q (replicate w x)) (sym o) (was.bytes (λ e. z (o ∙ e))));
        }

    -- for the other pages on the cycle something is entered
    cycle_entered : (q : ℕ) → ¬ (q ≡ page) → on_cycle P st page q ≡ true → (b : List ℕ) × IsEntered rings q b
    unfolding entry_page has_bytes
    cycle_entered q n on =
        let ring = ring_of page rings in
        let m = in_ring_entry q ring (ring_of_cycle P st rings match sound page flies q ∙ on) in
        let written = ap (λ (x : ℕ). is_written (st x)) m.2 ∙ completes_at P st sound page flies c q on n in
        by m.0 m.1 m.2 (sym ((ring_of_matches P st rings match page flies).written m.0 m.1) ∙ written)
      where
        by : (e : Entry) → Memᴰ e (ring_of page rings) → entry_page e ≡ q → has_bytes e ≡ true → (b : List ℕ) × IsEntered rings q b
        by (Entry.Empty p) m z has = absurd (never has refl)
        by (Entry.Entered p b) m z has =
            (b, (ring_of page rings, (ring_of_page page rings (match.covered page flies)).0, subst (λ (x : ℕ). Memᴰ (Entry.Entered x b) (ring_of page rings)) z m))

    pub done_kept : KeptIs w P then.kept (settled_kept P true (after_write P st page) holds kept)
    done_kept =
        kept_settled w P (after_write P st page) holds kept kept_room then.kept
        (λ q h rests some. on_test (on_cycle P st page q)
        (λ on. on_eq q page
        (λ e. subst (λ (x : ℕ). then.kept x ≡ replicate w (get_or holds x 0)) (sym e)
        (write_done_own P st rings sound match page flies (replicate w fill) keeps c ∙ ap (replicate w) (sym own)))
        (λ n. write_done_cycle P st rings sound match page flies (replicate w fill) keeps c q n on (replicate w (get_or holds q 0))
        (subst (λ (x : ℕ). IsEntered rings q (replicate w x)) (sym (other q n)) ((entered_is q h).bytes (λ z. some (other q n ∙ z))))))
        (λ off.
        let o = other q (off_other q off) in
        let i = (entered_is q h).bytes (λ z. some (o ∙ z)) in
        absurd (never (entered_flies P st rings match q _ i).flies (ap in_flight (sym (as_it_was q off)) ∙ rests))))
        (λ q h why. on_test (on_cycle P st page q)
        (λ on. elim why [
          | inl y ↦ absurd (never y (left_flight q on))
          | inr z ↦ on_eq q page
              (λ e. absurd (small (sym own ∙ ap (λ (x : ℕ). get_or holds x 0) (sym e) ∙ z)))
              (λ n. let i = cycle_entered q n on in absurd ((entered_is q h).nothing (sym (other q n) ∙ z) i.0 i.1))
        ])
        (λ off. write_done_other P st rings sound match page flies (replicate w fill) keeps c q off ∙ kept_is q h))

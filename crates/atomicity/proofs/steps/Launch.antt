-- Launching keeps the invariant: the records stay, and a ring of pages that were at rest opens.
use Rattle.std.specs.Prelude.{ℕ, ◌≤◌, ◌<◌, ◌≡◌, List, [], ◌∷◌, ◌++◌, false, not, ◌&&◌, ltb, leb, eqb, length, get_or}
use Rattle.std.proofs.Common.{arith, ◌∙◌, subst, ltb-true, leb-true}
use Rattle.std.proofs.Math.Path.{refl, sym, ap}
use Rattle.std.proofs.Math.Logic.{inl, inr}
use Rattle.std.proofs.Math.Bool.{true}
use Rattle.std.proofs.lemmas.Bool.{eqb-false, not-true}
use Rattle.bounded.specs.Limits.{no_number, highest_version}
use Rattle.bounded.specs.Choice.{both_left, both_right}
use Rattle.bounded.specs.Below.{all_below}
use Rattle.bounded.specs.BelowLaws.{all_at, some_not_at}
use Rattle.sizes.specs.declared.Sizes.{Sizes}
use Rattle.sizes.specs.Sizes.{no_repeats, in_range, list_ok}
use Rattle.record.specs.Flash.{Flash}
use Rattle.state.specs.declared.PageState.{PageState}
use Rattle.state.specs.State.{in_flight, is_written}
use Rattle.state.specs.StateLaws.{StateFacts}
use Rattle.state.specs.Change.{following, launched_page, launched}
use Rattle.state.specs.Walk.{Launchable}
use Rattle.state.specs.LaunchLaws.{launched_sound}
use Rattle.rules.specs.Launch.{some_page, used_up}
use Rattle.protocol.specs.View.{pointing_view}
use Rattle.protocol.specs.SameSet.{StateChanges, live_changes}
use Rattle.atomicity.specs.Family.{Family}
use Rattle.atomicity.specs.Call.{Call}
use Rattle.atomicity.specs.Model.{Model, new_ring, accept}
use Rattle.atomicity.specs.rings.Match.{IsEntered}
use Rattle.atomicity.proofs.rings.Launch.{launched_listed, launched_cases, launched_flying, launch_match, launch_entered}
use Rattle.atomicity.proofs.steps.Theory.{Theory}
use Rattle.atomicity.proofs.steps.Invariant.{Live}

-- ---- a launch that is accepted

pub listed_some : (P : ℕ) (pages : List ℕ) → list_ok P pages ≡ true → 1 ≤ length pages
unfolding list_ok
listed_some P pages e = leb-true 1 (length pages) (both_left (leb 1 (length pages)) (in_range P pages && no_repeats pages) e)

-- what the tests of the launch say of the listed pages
pub listed_launchable :
    (P : ℕ) (st : ℕ → PageState) (pages : List ℕ)
    → StateFacts P st
    → list_ok P pages ≡ true
    → some_page pages st in_flight ≡ false
    → some_page pages st used_up ≡ false
    → Launchable P st pages
unfolding list_ok in_range no_repeats some_page used_up
listed_launchable P st pages sound ok rest left = record {
  in_range_lem = within;
  no_repeats_lem = λ i j l m. eqb-false (page i) (page j) (not-true (eqb (page i) (page j)) (all_at (λ k. not (eqb (page k) (page j))) j i (all_at (λ k. all_below k (λ n. not (eqb (page n) (page k)))) (length pages) j unlike m) l));
  resting = λ i l. some_not_at (λ k. in_flight (st (page k))) (length pages) i rest l;
  version_left = λ i l. let h = (sound.page (page i) (within i l)).used_highest in
      let n = eqb-false (st (page i)).used highest_version (some_not_at (λ k. eqb (st (page k)).used highest_version) (length pages) i left l) in
      omega arith;
}
  where
    page : ℕ → ℕ
    page i = get_or pages i 0

    lists : (in_range P pages && no_repeats pages) ≡ true
    lists = both_right (leb 1 (length pages)) (in_range P pages && no_repeats pages) ok

    unlike : no_repeats pages ≡ true
    unlike = both_right (in_range P pages) (no_repeats pages) lists

    within : (i : ℕ) → i < length pages → page i < P
    within i l = ltb-true (page i) P (all_at (λ k. ltb (page k) P) (length pages) i (both_left (in_range P pages) (no_repeats pages) lists) l)

-- ---- the step

module _ {F : Family} (T : Theory F) (sizes : Sizes) (fits : sizes.pages ≤ no_number) (f : Flash) (st : ℕ → PageState) (m : Model) (l : Live T sizes f st m)
    (pages : List ℕ) (some : 1 ≤ length pages) (ok : Launchable sizes.pages st pages) where
  -- a listed page's state is the launched one
  listed_is : (p i : ℕ) → i < length pages → get_or pages i 0 ≡ p → launched pages st p ≡ launched_page (st p) (following pages i)
  listed_is p i h e = subst (λ (q : ℕ). launched pages st q ≡ launched_page (st q) (following pages i)) e (launched_listed sizes.pages st pages ok i h)

  same_comm : (p : ℕ) → p < sizes.pages → (st p).committed ≡ (launched pages st p).committed
  unfolding launched_page
  same_comm p h =
      launched_cases sizes.pages st pages ok p
      (λ i b e r. sym (ap (λ (s : PageState). s.committed) (listed_is p i b e)))
      (λ e. sym (ap (λ (s : PageState). s.committed) e))

  changes : StateChanges sizes.pages st (launched pages st) (IsEntered m.rings) (IsEntered (m.rings ++ new_ring pages ∷ []))
  unfolding launched_page is_written
  changes =
      record {
        used_rises = λ p h.
            launched_cases sizes.pages st pages ok p
            (λ i b e r. let q = ap (λ (s : PageState). s.used) (listed_is p i b e) in omega arith)
            (λ e. let q = ap (λ (s : PageState). s.used) e in omega arith);
        flights = λ p h y.
            launched_cases sizes.pages st pages ok p
            (λ i b e r. inl (record {
              fresh = (let q = ap (λ (s : PageState). s.used) (listed_is p i b e) in omega arith);
              not_written = ap is_written (listed_is p i b e);
            }))
            (λ e. let z : in_flight (st p) ≡ true = ap in_flight (sym e) ∙ y in
            inr (record {
              unchanged = e;
              next_used = ap (λ (s : PageState). s.used) (launched_flying sizes.pages st pages ok (st p).next ((l.sound.page p h).next_flies z));
              before = λ q i g n. launched_flying sizes.pages st pages ok q g;
              entered = λ d n. (launch_entered pages m.rings p d).1 n;
            }));
      }

  pub launched_live : Live T sizes f (launched pages st) (accept m (Call.Launch pages))
  unfolding accept
  launched_live =
      record {
        sound = launched_sound sizes.pages fits st l.sound pages ok;
        apart = l.apart;
        core = T.same _ _ _ _ _ _ _ (record { forth = λ r b h. h; back = λ r b h. h; same_comm = same_comm; same_kept = λ p h. refl }) l.core;
        live = live_changes (pointing_view T.back) changes (T.shared _ _ _ _ l.core).all_sound l.live;
        rings = launch_match sizes.pages st pages ok some fits m.rings l.rings;
      }

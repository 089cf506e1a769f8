-- Withdrawing keeps the invariant: the records stay, and one ring's pages are at rest.
use Rattle.std.specs.Prelude.{ℕ, ◌≡◌, true, false}
use Rattle.std.proofs.Common.{arith, subst, inr}
use Rattle.std.proofs.Math.Path.{refl, sym, ap}
use Rattle.bounded.specs.Choice.{never, on_test}
use Rattle.sizes.specs.declared.Sizes.{Sizes}
use Rattle.record.specs.Flash.{Flash}
use Rattle.state.specs.declared.PageState.{PageState}
use Rattle.state.specs.State.{in_flight}
use Rattle.state.specs.Cycle.{on_cycle}
use Rattle.state.specs.Change.{at_rest, withdrawn_page, withdrawn}
use Rattle.state.specs.CycleLaws.{Flies, on_cycle_next}
use Rattle.state.specs.ChangeLaws.{withdrawn_sound}
use Rattle.protocol.specs.View.{pointing_view}
use Rattle.protocol.specs.SameSet.{StateChanges, live_changes}
use Rattle.atomicity.specs.Family.{Family}
use Rattle.atomicity.specs.Call.{Call}
use Rattle.atomicity.specs.Model.{Model, close_ring, accept}
use Rattle.atomicity.specs.rings.Match.{IsEntered}
use Rattle.atomicity.proofs.rings.Close.{close_entered, withdraw_match}
use Rattle.atomicity.proofs.steps.Theory.{Theory}
use Rattle.atomicity.proofs.steps.Invariant.{Live}

module _ {F : Family} (T : Theory F) (sizes : Sizes) (f : Flash) (st : ℕ → PageState) (m : Model) (l : Live T sizes f st m) (page : ℕ) (y : Flies sizes.pages st page) where
  on_it : (q : ℕ) → on_cycle sizes.pages st page q ≡ true → withdrawn sizes.pages st page q ≡ withdrawn_page (st q)
  unfolding withdrawn
  on_it q e = rw e

  off_it : (q : ℕ) → on_cycle sizes.pages st page q ≡ false → withdrawn sizes.pages st page q ≡ st q
  unfolding withdrawn
  off_it q e = rw e

  same_versions : (q : ℕ) → ((withdrawn sizes.pages st page q).committed ≡ (st q).committed) × ((withdrawn sizes.pages st page q).used ≡ (st q).used)
  unfolding withdrawn_page at_rest
  same_versions q =
      on_test (on_cycle sizes.pages st page q)
      (λ e. (ap (λ (s : PageState). s.committed) (on_it q e), ap (λ (s : PageState). s.used) (on_it q e)))
      (λ e. (ap (λ (s : PageState). s.committed) (off_it q e), ap (λ (s : PageState). s.used) (off_it q e)))

  -- a page still in flight is on another cycle
  still_off : (q : ℕ) → in_flight (withdrawn sizes.pages st page q) ≡ true → on_cycle sizes.pages st page q ≡ false
  unfolding withdrawn_page at_rest in_flight
  still_off q z = on_test (on_cycle sizes.pages st page q) (λ e. absurd (never z (ap in_flight (on_it q e)))) (λ e. e)

  changes : StateChanges sizes.pages st (withdrawn sizes.pages st page) (IsEntered m.rings) (IsEntered (close_ring page m.rings))
  changes =
      record {
        used_rises = λ p h. let e = (same_versions p).1 in omega arith;
        flights = λ p h z.
            let off = still_off p z in
            let e = off_it p off in
            inr (record {
              unchanged = e;
              next_used = (same_versions (st p).next).1;
              before = λ q i g n. off_it q (on_test (on_cycle sizes.pages st page q)
                  (λ on. absurd (never (subst (λ (x : ℕ). on_cycle sizes.pages st page x ≡ true) n (on_cycle_next sizes.pages st l.sound page y q on)) off))
                  (λ o. o));
              entered = λ d n. (close_entered sizes.pages st m.rings l.sound l.rings page y p off d).1 n;
            });
      }

  pub withdrawn_live : Live T sizes f (withdrawn sizes.pages st page) (accept m (Call.Withdraw page))
  unfolding accept
  withdrawn_live =
      record {
        sound = withdrawn_sound sizes.pages st l.sound page y;
        apart = l.apart;
        core = T.same _ _ _ _ _ _ _ (record { forth = λ r b h. h; back = λ r b h. h; same_comm = λ p h. sym (same_versions p).0; same_kept = λ p h. refl }) l.core;
        live = live_changes (pointing_view T.back) changes (T.shared _ _ _ _ l.core).all_sound l.live;
        rings = withdraw_match sizes.pages st m.rings l.sound l.rings page y;
      }

-- The invariant sees a state below P alone, so what holds of a function from page to state holds of the words made of it.
use Rattle.std.specs.Prelude.{ℕ, ◌<◌, ◌≡◌, refl, List}
use Rattle.std.proofs.Common.{arith, sym, ap, ◌∙◌, inr}
use Rattle.sizes.specs.declared.Sizes.{Sizes}
use Rattle.record.specs.Flash.{Flash}
use Rattle.state.specs.declared.PageState.{PageState}
use Rattle.state.specs.State.{state_at, state_words, in_flight}
use Rattle.state.specs.StateLaws.{StateFacts, facts_cong, state_at_words}
use Rattle.protocol.specs.View.{pointing_view}
use Rattle.protocol.specs.SameSet.{StateChanges, live_changes}
use Rattle.atomicity.specs.Family.{Family}
use Rattle.atomicity.specs.Model.{Model}
use Rattle.atomicity.specs.rings.Match.{IsEntered}
use Rattle.atomicity.proofs.rings.Cycle.{rings_match_cong}
use Rattle.atomicity.proofs.steps.Theory.{Theory}
use Rattle.atomicity.proofs.steps.Invariant.{Live}

module _ {F : Family} (T : Theory F) (sizes : Sizes) (st st' : ℕ → PageState) (same : (p : ℕ) → p < sizes.pages → st' p ≡ st p) where
  goes_on : StateFacts sizes.pages st → (E : ℕ → List ℕ → Type 0) → StateChanges sizes.pages st st' E E
  goes_on s E =
      record {
        used_rises = λ p h. let e = ap (λ (x : PageState). x.used) (same p h) in omega arith;
        flights = λ p h y.
            let f = ap in_flight (sym (same p h)) ∙ y in
            inr (record {
              unchanged = same p h;
              next_used = ap (λ (x : PageState). x.used) (same (st p).next ((s.page p h).next_below f));
              before = λ q i z e. same q i;
              entered = λ b e. e;
            });
      }

  live_below : (f : Flash) (m : Model) → Live T sizes f st m → Live T sizes f st' m
  live_below f m l =
      record {
        sound = facts_cong sizes.pages st st' (λ p h. sym (same p h)) l.sound;
        apart = l.apart;
        core = T.same _ _ _ _ _ _ _ (record { forth = λ r b h. h; back = λ r b h. h; same_comm = λ p h. sym (ap (λ (x : PageState). x.committed) (same p h)); same_kept = λ p h. refl }) l.core;
        live = live_changes (pointing_view T.back) (goes_on l.sound (IsEntered m.rings)) (T.shared _ _ _ _ l.core).all_sound l.live;
        rings = rings_match_cong sizes.pages st m.rings l.rings st' same;
      }

-- the state that the words of st say
pub live_words : {F : Family} (T : Theory F) (sizes : Sizes) (f : Flash) (st : ℕ → PageState) (m : Model) → Live T sizes f st m → Live T sizes f (state_at (state_words sizes.pages st)) m
live_words T sizes f st m l = live_below T sizes st (state_at (state_words sizes.pages st)) (λ p h. state_at_words sizes.pages st p h) f m l

-- Stages that lose none but records that may be erased keep the invariant, all done or cut short anywhere.
use Prim.Native.Nat.{ℕ, zero, suc}
use Rattle.std.proofs.Common.{sym, ap, ◌∙◌}
use Rattle.std.proofs.Math.Path.{subst}
use mathlib.Core.List.{List, [], ◌∷◌}
use Rattle.std.specs.Prelude.{Bool, true}
use Rattle.sizes.specs.declared.Sizes.{Sizes}
use Rattle.record.specs.Flash.{Flash, Step, apply_all_in}
use Rattle.record.specs.FlashLaws.{SizedIn, apply_append}
use Rattle.state.specs.declared.PageState.{PageState}
use Rattle.atomicity.specs.Family.{Family}
use Rattle.atomicity.specs.Run.{done_of, done_in, steps_cut_short}
use Rattle.atomicity.specs.Model.{Model}
use Rattle.atomicity.proofs.steps.Sparing.{Spared, Spares}
use Rattle.atomicity.proofs.steps.Theory.{Theory, keeping}
use Rattle.atomicity.proofs.steps.Invariant.{Live}
use Rattle.atomicity.proofs.steps.Stages.{done_all, cut_first, cut_later}

module _ {F : Family} (T : Theory F) (sizes : Sizes) (st : ℕ → PageState) (m : Model) where
  -- the flash has its lengths, and the invariant holds with the state st
  pub record Kept (f : Flash) : Type 0 where
    pub sized : SizedIn F.layout sizes.width sizes.slots f
    pub live : Live T sizes f st m

  -- one change
  pub spared_kept : (f g : Flash) → Spared (keeping T) sizes.width sizes.slots st f g → Kept f → Kept g
  spared_kept f g s k =
      let l = k.live in
      record {
        sized = s.sized;
        live = record {
          sound = l.sound;
          apart = s.apart l.apart;
          core = T.fewer _ _ _ _ _ s.erased l.core;
          live = T.live_fewer _ _ _ _ _ _ s.erased l.core l.sound l.live;
          rings = l.rings;
        };
      }

  -- the stages cut short
  pub spares_kept :
      (stages : List (List Step)) (f : Flash) (stage : ℕ) (done : ℕ → Bool)
      → Spares (keeping T) sizes.width sizes.slots st f stages
      → Kept f
      → Kept (apply_all_in F.layout sizes.width f (steps_cut_short stage done stages))
  unfolding Spares steps_cut_short done_in apply_all_in
  spares_kept [] f stage done s k = k
  spares_kept (first ∷ rest) f zero done s k =
      subst (λ (l : List Step). Kept (apply_all_in F.layout sizes.width f l)) (sym (cut_first done first rest))
      (spared_kept f (apply_all_in F.layout sizes.width f (done_of done 0 first)) (s.0 done) k)
  spares_kept (first ∷ rest) f (suc stage) done s k =
      subst Kept (sym (ap (apply_all_in F.layout sizes.width f) (cut_later stage done first rest) ∙ apply_append F.layout sizes.width f first (steps_cut_short stage done rest)))
      (spares_kept rest (apply_all_in F.layout sizes.width f first) stage done s.1
      (spared_kept f (apply_all_in F.layout sizes.width f first)
      (subst (λ (l : List Step). Spared (keeping T) sizes.width sizes.slots st f (apply_all_in F.layout sizes.width f l)) (done_all 0 first) (s.0 (λ i. true))) k))

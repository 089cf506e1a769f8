-- A block whose cleaning was cut, however often, can be cleaned again once recover has answered 0.
use Rattle.std.specs.Prelude.{ℕ, ◌*◌, ◌≤◌, ◌≡◌, ◌⊎◌, Bool, cond, eqb, length}
use Rattle.std.proofs.Math.Path.{refl, subst}
use Rattle.std.proofs.Common.{sym, ◌∙◌, inl}
use mathlib.Core.List.{List, [], ◌∷◌, ◌++◌, map}
use Rattle.std.proofs.Math.Bool.{true, false}
use borrow.Author.Tests.{eqb-true, le-ltb}
use Rattle.bounded.specs.Limits.{Widths}
use Rattle.bounded.specs.Choice.{never, both, both_left, both_right}
use Rattle.sizes.specs.declared.Block.{Block}
use Rattle.sizes.specs.declared.Layout.TheVariants.{FiveWords}
use Rattle.sizes.specs.declared.Sizes.{Sizes}
use Rattle.sizes.specs.Blocks.{NamedBlock, block_at}
use Rattle.record.specs.Slot.{slot_at, bytes_at}
use Rattle.record.specs.Flash.{Flash, Step, apply_all_in}
use Rattle.state.specs.State.{state_at}
use Rattle.state.specs.StateLaws.{facts_state_sound}
use Rattle.table.specs.Table.{table_sound}
use Rattle.rules.specs.Volume.{Volume}
use Rattle.rules.specs.laws.Volume.{FitsIn}
use Rattle.rules.proofs.laws.Volume.{fits_test}
use Rattle.upkeep.specs.Clean.{clean_from, clean_to, clean_stages, too_few_blank, clean_answer}
use Rattle.upkeep.proofs.laws.Tests.{CleanTests, clean_tests}
use Rattle.upkeep.proofs.laws.Clean.{sound_slots}
use Rattle.protocol.specs.Shared.{comm_of}
use Rattle.atomicity.specs.Family.{back_pointer}
use Rattle.atomicity.proofs.BackPointer.{back_pointer_lem}
use Rattle.atomicity.specs.Call.{Call, with_state, perform, planned_stages}
use Rattle.atomicity.specs.Run.{Event, World, is_recover, still_lost, steps_cut_short, happens, started, after, keeps_to, keeps_premises}
use Rattle.atomicity.specs.Model.{Model, fresh_model, close_all}
use Rattle.atomicity.specs.Promise.{model_after}
use Rattle.atomicity.specs.Companions.{Setback, befalls, CleanedAfterCut}
use Rattle.atomicity.proofs.steps.Invariant.{Lost, Known, Holding, known, unknown}
use Rattle.atomicity.proofs.steps.Stages.{answer_is, performs, accepted_stages}
use Rattle.atomicity.proofs.steps.Recover.{found_versions, found_at_rest}
use Rattle.atomicity.proofs.steps.Spared.{Kept, spares_kept}
use Rattle.atomicity.proofs.steps.Crash.{crash_flash, no_stages}
use Rattle.atomicity.proofs.steps.Event.{recover_finds}
use Rattle.atomicity.proofs.steps.CutCleaning.{FirstStand, AllStand, none_stand, cut_leaves}
use Rattle.atomicity.proofs.theorems.Promise.{reached}
use Rattle.atomicity.proofs.theorems.RoomAgain.{room_again}

-- ---- the block's cleaning cut, and a recover

module _ (widths : Widths) (sizes : Sizes) (block : NamedBlock) where
  abbrev b : Block
  b = block_at sizes.slots block

  -- a volume whose state is known and whose block can be cleaned
  pub record Cleanable (v : Volume) : Type 0 where
    pub model : Model
    pub is_known : Known back_pointer_lem widths sizes v model
    pub accepted : clean_answer widths sizes v block ≡ 0

  module _ (v : Volume) (can : Cleanable v) where
    -- what is left of it by cuts in that cleaning, until a recover has answered 0
    pub record CutFrom (u : Volume) : Type 0 where
      pub fits : FitsIn FiveWords widths sizes u
      pub kept : Kept back_pointer_lem sizes (state_at v.state) can.model u.flash
      pub stands : ((n : ℕ) × FirstStand sizes v b n u.flash) ⊎ AllStand sizes v b u.flash

    tests : CleanTests widths sizes v block
    tests = clean_tests widths sizes v block can.accepted

    kept_at_first : Kept back_pointer_lem sizes (state_at v.state) can.model v.flash
    kept_at_first = record { sized = can.is_known.fits.flash_sized; live = can.is_known.live }

    -- nothing done of it, whatever the state then holds
    pub untouched : (state : List ℕ) → length state ≡ 4 * sizes.pages → CutFrom (record { flash = v.flash; state = state })
    untouched state long =
        record {
          fits = record { bounds = can.is_known.fits.bounds; allowed = can.is_known.fits.allowed; flash_sized = can.is_known.fits.flash_sized; state_sized = long };
          kept = kept_at_first;
          stands = inl (0, none_stand sizes v b tests.fits.flash_sized tests.table tests.room);
        }

    -- a cut in it
    pub cut_in_it : (stage : ℕ) (done : ℕ → Bool) (state : List ℕ) → length state ≡ 4 * sizes.pages → CutFrom (record { flash = crash_flash back_pointer_lem widths sizes v (Call.Clean block) stage done; state = state })
    unfolding planned_stages answer_is back_pointer_lem
    cut_in_it stage done state long =
        subst (λ (l : List (List Step)). CutFrom (record { flash = apply_all_in FiveWords sizes.width v.flash (steps_cut_short stage done l); state = state })) (sym (accepted_stages back_pointer_lem widths sizes v (Call.Clean block) can.accepted))
        (let k = spares_kept back_pointer_lem sizes (state_at v.state) can.model (clean_stages sizes v b) v.flash stage done ((back_pointer_lem.cleans block).spares widths sizes v can.is_known.fits can.accepted) kept_at_first in
        record {
          fits = record { bounds = can.is_known.fits.bounds; allowed = can.is_known.fits.allowed; flash_sized = k.sized; state_sized = long };
          kept = k;
          stands = cut_leaves sizes v b tests.fits.flash_sized tests.table tests.room stage done;
        })

    -- ---- a recover

    module _ (u : Volume) (cut : CutFrom u) where
      abbrev recovered : Volume
      recovered = (perform back_pointer widths sizes u Call.Recover).left

      lost : Lost back_pointer_lem sizes u.flash (close_all can.model)
      unfolding close_all
      lost = record { comm = comm_of (state_at v.state); apart = cut.kept.live.apart; core = cut.kept.live.core; closed = refl }

      found_known : Known back_pointer_lem widths sizes recovered (close_all (close_all can.model)) × ((perform back_pointer widths sizes u Call.Recover).answer ≡ 0)
      found_known = recover_finds back_pointer_lem widths sizes u (close_all can.model) cut.fits lost

      table_again : table_sound sizes.pages sizes.slots (slot_at recovered.flash.words) ≡ true
      table_again = sound_slots sizes.pages sizes.slots (slot_at recovered.flash.words) (λ j r h e. (back_pointer_lem.shared _ _ _ _ found_known.0.live.core).all_sound r (bytes_at sizes.width recovered.flash.contents j) (j, h, e, refl))

      room : length (clean_from sizes recovered b) ≤ length (clean_to sizes recovered b)
      unfolding perform with_state back_pointer_lem
      room =
          room_again sizes v recovered b tests.fits.flash_sized tests.table tests.room found_known.0.fits.flash_sized table_again can.is_known.live.core
          (found_versions back_pointer_lem widths sizes u.flash cut.fits.bounds cut.fits.allowed cut.fits.flash_sized cut.kept.live.apart cut.kept.live.core u.state cut.fits.state_sized)
          (found_at_rest back_pointer_lem widths sizes u.flash cut.fits.bounds cut.fits.allowed cut.fits.flash_sized cut.kept.live.apart cut.kept.live.core u.state cut.fits.state_sized)
          cut.stands

      accepted_again : clean_answer widths sizes recovered block ≡ 0
      unfolding clean_answer too_few_blank
      accepted_again =
          rw (
            clean_answer,
            too_few_blank,
            fits_test widths sizes recovered found_known.0.fits,
            tests.starts_sound,
            table_again,
            facts_state_sound sizes.pages (state_at recovered.state) found_known.0.live.sound,
            tests.named,
            le-ltb (length (clean_to sizes recovered b)) (length (clean_from sizes recovered b)) room,
          )

      pub cleanable_again : Cleanable recovered × ((perform back_pointer widths sizes u Call.Recover).answer ≡ 0)
      cleanable_again = (record { model = close_all (close_all can.model); is_known = found_known.0; accepted = accepted_again }, found_known.1)

  -- ---- any number of setbacks

  -- the block can be cleaned, or the state is lost since a volume of which it could
  data Still (x : World) : Type 0 where
    still_known : x.lost ≡ false → Cleanable x.volume → Still x
    still_lost_lem : x.lost ≡ true → (v : Volume) (can : Cleanable v) → CutFrom v can x.volume → Still x

  -- whatever the state then holds
  with_state_lem : (v : Volume) (can : Cleanable v) (u : Volume) → CutFrom v can u → (state : List ℕ) → length state ≡ 4 * sizes.pages → CutFrom v can (record { flash = u.flash; state = state })
  with_state_lem v can u cut state long =
      record {
        fits = record { bounds = cut.fits.bounds; allowed = cut.fits.allowed; flash_sized = cut.fits.flash_sized; state_sized = long };
        kept = cut.kept;
        stands = cut.stands;
      }

  -- a cut recover leaves the flash as it was
  cut_recover : (v : Volume) (can : Cleanable v) (u : Volume) (stage : ℕ) (done : ℕ → Bool) (state : List ℕ) → CutFrom v can (record { flash = u.flash; state = state }) → CutFrom v can (record { flash = crash_flash back_pointer_lem widths sizes u Call.Recover stage done; state = state })
  unfolding planned_stages
  cut_recover v can u stage done state cut = subst (λ (f : Flash). CutFrom v can (record { flash = f; state = state })) (sym (no_stages back_pointer_lem widths sizes u Call.Recover stage done refl)) cut

  goes_on : (x : World) (s : Setback) → Still x → keeps_to sizes.pages x (befalls block s) ≡ true → Still (happens back_pointer widths sizes x (befalls block s))
  unfolding befalls happens keeps_to is_recover still_lost
  goes_on x (Setback.InCleaning stage done state) (still_known f can) keeps =
      still_lost_lem refl x.volume can (cut_in_it x.volume can stage done state (eqb-true (length state) (4 * sizes.pages) (both_right (cond x.lost false true) (eqb (length state) (4 * sizes.pages)) keeps)))
  goes_on x (Setback.InCleaning stage done state) (still_lost_lem l v can cut) keeps = absurd (never (both_left (cond x.lost false true) (eqb (length state) (4 * sizes.pages)) keeps) (rw l))
  goes_on x (Setback.InRecover stage done state) (still_known f can) keeps =
      let long = eqb-true (length state) (4 * sizes.pages) (both_right (cond x.lost true true) (eqb (length state) (4 * sizes.pages)) keeps) in
      still_lost_lem refl x.volume can (cut_recover x.volume can x.volume stage done state (untouched x.volume can state long))
  goes_on x (Setback.InRecover stage done state) (still_lost_lem l v can cut) keeps =
      let long = eqb-true (length state) (4 * sizes.pages) (both_right (cond x.lost true true) (eqb (length state) (4 * sizes.pages)) keeps) in
      still_lost_lem refl v can (cut_recover v can x.volume stage done state (with_state_lem v can x.volume cut state long))
  goes_on x (Setback.Between state) (still_known f can) keeps = still_lost_lem refl x.volume can (untouched x.volume can state (eqb-true (length state) (4 * sizes.pages) keeps))
  goes_on x (Setback.Between state) (still_lost_lem l v can cut) keeps = still_lost_lem refl v can (with_state_lem v can x.volume cut state (eqb-true (length state) (4 * sizes.pages) keeps))
  goes_on x Setback.Recovered (still_known f can) keeps = still_known (rw f) (cleanable_again x.volume can x.volume (untouched x.volume can x.volume.state can.is_known.fits.state_sized)).0
  goes_on x Setback.Recovered (still_lost_lem l v can cut) keeps = let c = cleanable_again v can x.volume cut in still_known (rw (l, c.1)) c.0

  go_on : (setbacks : List Setback) (x : World) → Still x → keeps_premises back_pointer widths sizes x (map (befalls block) setbacks) ≡ true → Still (after back_pointer widths sizes x (map (befalls block) setbacks))
  unfolding after keeps_premises
  go_on [] x still keeps = still
  go_on (s ∷ setbacks) x still keeps =
      let y = happens back_pointer widths sizes x (befalls block s) in
      let rest = keeps_premises back_pointer widths sizes y (map (befalls block) setbacks) in
      go_on setbacks y (goes_on x s still (both_left (keeps_to sizes.pages x (befalls block s)) rest keeps)) (both_right (keeps_to sizes.pages x (befalls block s)) rest keeps)

  answers : (x : World) → x.lost ≡ false → Still x → clean_answer widths sizes x.volume block ≡ 0
  answers x found (still_known f can) = can.accepted
  answers x found (still_lost_lem gone v can cut) = absurd (never gone found)

-- lists one behind the other
after_append : (widths : Widths) (sizes : Sizes) (x : World) (a b : List Event) → after back_pointer widths sizes x (a ++ b) ≡ after back_pointer widths sizes (after back_pointer widths sizes x a) b
unfolding after
after_append widths sizes x [] b = refl
after_append widths sizes x (e ∷ a) b = after_append widths sizes (happens back_pointer widths sizes x e) a b

keeps_append :
    (widths : Widths) (sizes : Sizes) (x : World) (a b : List Event)
    → keeps_premises back_pointer widths sizes x (a ++ b) ≡ true
    → (keeps_premises back_pointer widths sizes x a ≡ true) × (keeps_premises back_pointer widths sizes (after back_pointer widths sizes x a) b ≡ true)
unfolding after keeps_premises
keeps_append widths sizes x [] b k = (refl, k)
keeps_append widths sizes x (e ∷ a) b k =
    let now = both_left (keeps_to sizes.pages x e) (keeps_premises back_pointer widths sizes (happens back_pointer widths sizes x e) (a ++ b)) k in
    let rest = keeps_append widths sizes (happens back_pointer widths sizes x e) a b (both_right (keeps_to sizes.pages x e) (keeps_premises back_pointer widths sizes (happens back_pointer widths sizes x e) (a ++ b)) k) in
    (both now rest.0, rest.1)

pub cleaned_after_cut : CleanedAfterCut
unfolding answer_is back_pointer_lem
cleaned_after_cut widths sizes v events block setbacks found e p found_then = by (reached back_pointer_lem widths sizes v events (record { formatted = p.formatted; keeps = keep.0 }))
  where
    x : World
    x = after back_pointer widths sizes (started back_pointer widths sizes v) events

    y : World
    y = after back_pointer widths sizes (started back_pointer widths sizes v) (events ++ map (befalls block) setbacks)

    keep : (keeps_premises back_pointer widths sizes (started back_pointer widths sizes v) events ≡ true) × (keeps_premises back_pointer widths sizes x (map (befalls block) setbacks) ≡ true)
    keep = keeps_append widths sizes (started back_pointer widths sizes v) events (map (befalls block) setbacks) p.keeps

    by : Holding back_pointer_lem widths sizes x (model_after back_pointer widths sizes (started back_pointer widths sizes v) (fresh_model sizes.width) events) → (perform back_pointer widths sizes y.volume (Call.Clean block)).answer ≡ 0
    by (known f fits live) =
        let can : Cleanable widths sizes block x.volume = record { model = _; is_known = record { fits = fits; live = live }; accepted = sym (performs back_pointer_lem widths sizes x.volume (Call.Clean block)) ∙ e } in
        let still = go_on widths sizes block setbacks x (still_known f can) keep.1 in
        performs back_pointer_lem widths sizes y.volume (Call.Clean block)
        ∙ answers widths sizes block y found_then (subst (Still widths sizes block) (sym (after_append widths sizes (started back_pointer widths sizes v) events (map (befalls block) setbacks))) still)
    by (unknown gone fits l) = absurd (never gone found)

-- Recovery, under the invariant: recover answers 0 and read gives the kept contents; and the state that it fills is known again.
use Prim.Native.Nat.{ℕ, ◌*◌, ◌<◌}
use Rattle.std.proofs.Common.{arith, ◌∙◌}
use Rattle.std.specs.Prelude.{◌≡◌, true, false, length}
use Rattle.std.proofs.Math.Path.{refl, sym, ap, subst}
use mathlib.Core.List.{List, []}
use Rattle.bounded.specs.Limits.{Widths}
use Rattle.bounded.specs.Choice.{never}
use Rattle.outcome.specs.Outcome.{Outcome}
use Rattle.sizes.specs.declared.Sizes.{Sizes}
use Rattle.sizes.specs.SizesLaws.{SizesFacts}
use Rattle.record.specs.Slot.{slot_in, bytes_at}
use Rattle.record.specs.Flash.{Flash}
use Rattle.record.specs.FlashLaws.{SizedIn}
use Rattle.state.specs.declared.PageState.{PageState}
use Rattle.state.specs.State.{state_at, in_flight}
use Rattle.state.specs.StateLaws.{length_state_words, state_sound_facts}
use Rattle.state.specs.Change.{at_rest}
use Rattle.table.specs.Table.{used_of}
use Rattle.rules.specs.Volume.{Volume}
use Rattle.rules.specs.laws.Volume.{FitsIn}
use Rattle.rules.proofs.laws.Volume.{fits_in_test}
use Rattle.rules.specs.Read.{read_outcome_in}
use Rattle.protocol.specs.View.{pointing_view}
use Rattle.protocol.specs.Shared.{SharedCore, SharedLive, comm_of}
use Rattle.protocol.proofs.RecoverAnswers.{found_within_used}
use Rattle.protocol.proofs.ReadsKept.{filled_page, filled_sound, read_outcome_kept}
use Rattle.atomicity.specs.Family.{Family}
use Rattle.atomicity.specs.Model.{Model, close_all}
use Rattle.atomicity.specs.Promise.{Recovers}
use Rattle.atomicity.specs.rings.Match.{IsEntered}
use Rattle.atomicity.proofs.rings.Close.{no_rings_match}
use Rattle.atomicity.proofs.steps.Theory.{Theory, found, recover_done}
use Rattle.atomicity.proofs.steps.Invariant.{Held, Live}

module _ {F : Family} (T : Theory F) (widths : Widths) (sizes : Sizes) (f : Flash) (bounds : SizesFacts sizes.pages sizes.slots) (allowed : widths sizes.width ≡ true) (size : SizedIn F.layout sizes.width sizes.slots f) (apart : T.Apart sizes.slots (slot_in F.layout f.words))
    {comm : ℕ → ℕ} {kept : ℕ → List ℕ} (core : T.Core (Held F sizes.width sizes.slots f) comm sizes.pages kept) (state : List ℕ) (long : length state ≡ 4 * sizes.pages) where
  -- recover answers 0
  pub accepts : T.recover_answer widths sizes (record { flash = f; state = state }) ≡ 0
  accepts = T.recover_accepts widths sizes (record { flash = f; state = state }) comm kept (record { bounds = bounds; allowed = allowed; flash_sized = size; state_sized = long }) apart core

  abbrev committed : ℕ → ℕ
  committed p = F.committed sizes.pages sizes.slots (slot_in F.layout f.words) p

  abbrev filled : List ℕ
  filled = found T widths sizes (record { flash = f; state = state })

  fills : F.recover widths sizes (record { flash = f; state = state }) ≡ record { answer = 0; second = T.links sizes.pages sizes.slots (slot_in F.layout f.words); left = filled }
  fills = recover_done T widths sizes (record { flash = f; state = state }) accepts

  shared : SharedCore (pointing_view T.back) (Held F sizes.width sizes.slots f) comm sizes.pages kept
  shared = T.shared _ _ _ _ core

  right : (p : ℕ) → p < sizes.pages → committed p ≡ comm p
  right p h = T.committed_found_lem _ _ _ _ _ _ core p h

  -- the volume with the state so filled
  abbrev volume : Volume
  volume = record { flash = f; state = filled }

  pub found_fits : FitsIn F.layout widths sizes volume
  found_fits = record { bounds = bounds; allowed = allowed; flash_sized = size; state_sized = length_state_words sizes.pages (λ p. at_rest (committed p) (used_of sizes.slots (slot_in F.layout f.words) p)) }

  -- what promise 3 concludes
  pub recovers : Recovers F widths sizes f kept state
  recovers =
      record {
        recover_answers_lem = ap (λ (o : Outcome (List ℕ)). o.answer) fills;
        reads_kept = λ page out below room.
            subst (λ (o : Outcome (List ℕ)). read_outcome_in F.layout widths sizes (record { flash = f; state = o.left }) page out ≡ record { answer = 0; second = 0; left = kept page }) (sym fills)
            (read_outcome_kept F.layout T.back sizes volume committed shared right refl widths page out below (fits_in_test F.layout widths sizes volume found_fits) room);
      }

  -- the committed versions found are those of the core
  found_comm : (p : ℕ) → p < sizes.pages → comm p ≡ (state_at filled p).committed
  unfolding at_rest
  found_comm p h = sym (ap (λ (s : PageState). s.committed) (filled_page F.layout T.back sizes volume committed shared right refl p h))

  pub found_versions : (p : ℕ) → p < sizes.pages → (state_at (F.recover widths sizes (record { flash = f; state = state })).left p).committed ≡ comm p
  found_versions p h = ap (λ (o : Outcome (List ℕ)). (state_at o.left p).committed) fills ∙ sym (found_comm p h)

  found_used : (p : ℕ) → p < sizes.pages → (state_at filled p).used ≡ used_of sizes.slots (slot_in F.layout f.words) p
  unfolding at_rest
  found_used p h = ap (λ (s : PageState). s.used) (filled_page F.layout T.back sizes volume committed shared right refl p h)

  -- no page is in flight
  at_rest_lem : (p : ℕ) → p < sizes.pages → in_flight (state_at filled p) ≡ false
  unfolding at_rest in_flight
  at_rest_lem p h = ap in_flight (filled_page F.layout T.back sizes volume committed shared right refl p h)

  pub found_at_rest : (p : ℕ) → p < sizes.pages → in_flight (state_at (F.recover widths sizes (record { flash = f; state = state })).left p) ≡ false
  found_at_rest p h = ap (λ (o : Outcome (List ℕ)). in_flight (state_at o.left p)) fills ∙ at_rest_lem p h

  found_core : T.Core (Held F sizes.width sizes.slots f) (comm_of (state_at filled)) sizes.pages kept
  found_core = T.same _ _ _ _ _ _ _ (record { forth = λ r b h. h; back = λ r b h. h; same_comm = found_comm; same_kept = λ p h. refl }) core

  found_live : (Entered : ℕ → List ℕ → Type 0) → SharedLive (pointing_view T.back) sizes.pages (Held F sizes.width sizes.slots f) (state_at filled) Entered
  found_live Entered =
      let u = found_within_used T.back sizes.slots (slot_in F.layout f.words) (bytes_at sizes.width f.contents) in
      record {
        within_used = record {
          version_used = λ r b h. let l = u.version_used r b h in
              let e = found_used r.p ((pointing_view T.back).sound_page sizes.pages r (shared.all_sound r b h)) in omega arith;
          link_used = λ r b h. let l = u.link_used r b h in
              let e = found_used r.np ((pointing_view T.back).sound_next sizes.pages r (shared.all_sound r b h)) in omega arith;
        };
        written_stored = λ p h y. absurd (never y (at_rest_lem p h));
        unwritten_absent = λ p h y. absurd (never y (at_rest_lem p h));
        link_planned = λ p h y. absurd (never y (at_rest_lem p h));
      }

  -- the state is known again, with no open ring
  pub found_again : (m : Model) → m.kept ≡ kept → Live T sizes f (state_at filled) (close_all m)
  unfolding close_all
  found_again m e =
      record {
        sound = state_sound_facts sizes.pages (state_at filled) (filled_sound F.layout T.back sizes volume committed shared right refl);
        apart = apart;
        core = subst (λ (k : ℕ → List ℕ). T.Core (Held F sizes.width sizes.slots f) (comm_of (state_at filled)) sizes.pages k) (sym e) found_core;
        live = found_live (IsEntered []);
        rings = no_rings_match sizes.pages (state_at filled) at_rest_lem;
      }

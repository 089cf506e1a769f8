-- What is printed for a script is what its lines, carried out one after the other on a formatted volume, come to.
use Prim.Native.Nat.{ℕ, suc, ◌+◌, ◌*◌, ◌≤◌, ◌<◌}
use native.Mathlib.Omega.{arith}
use Rattle.std.specs.Prelude.{◌≡◌, Bool, cond, leb, replicate}
use Rattle.std.proofs.Math.Path.{refl, ap, subst}
use Rattle.std.proofs.Common.{sym, ◌∙◌}
use Rattle.std.specs.Prelude.{Option, None, Some, option_map}
use mathlib.Core.List.Memᴰ
use mathlib.Core.List.{List, [], ◌∷◌, map}
use Rattle.std.proofs.Math.Bool.{true, false}
use Rattle.std.proofs.Math.ListN.{length, length-replicate, get_or-replicate}
use Rattle.bounded.specs.Limits.{no_number, Widths}
use Rattle.bounded.specs.Choice.{never}
use Rattle.outcome.specs.Outcome.{Outcome, settled}
use Rattle.sizes.specs.declared.Layout.TheVariants.{FiveWords}
use Rattle.sizes.specs.declared.Sizes.{Sizes}
use Rattle.sizes.specs.Sizes.{sizes_ok}
use Rattle.sizes.proofs.SizesLaws.{sizes_facts}
use Rattle.text.specs.Scan.{bytes}
use Rattle.line.specs.Line.{Said, on_format, max_entries, line_means}
use Rattle.line.proofs.Says.{line_says}
use Rattle.state.specs.State.{state_at, in_flight}
use Rattle.state.specs.StateLaws.{state_at_words, none_rests}
use Rattle.state.specs.Change.{at_rest, fresh_state}
use Rattle.rules.specs.Volume.{Volume, volume_fits, volume_fits_in}
use Rattle.rules.specs.Format.{formatted, formatted_in, format_answer_in, format_outcome, format_outcome_in}
use Rattle.rules.specs.laws.Volume.{FitsIn}
use Rattle.rules.proofs.laws.Volume.{fits_test}
use Rattle.rules.proofs.laws.Outcomes.{format_done}
use Rattle.atomicity.specs.Run.{started}
use Rattle.atomicity.specs.Model.{fresh_model}
use Rattle.everywhere.specs.Cuts.{Recorded, cuts_from, cuts_of, erasing}
use Rattle.atomicity.proofs.rings.Close.{no_rings_match}
use Rattle.atomicity.proofs.rings.Cycle.{entered_flies}
use Rattle.atomicity.proofs.steps.Format.{formatted_fits}
use Rattle.atomicity.proofs.BackPointer.{back_pointer_lem}
use Rattle.cuts.specs.Recording.{steps_by, script, zeroed, script_of, cuts_text, report_of}
use Rattle.recorded.specs.Desk.{desk}
use Rattle.cuts.specs.Followed.{Follows}
use Rattle.cuts.specs.Steps.{Small}
use Rattle.cuts.specs.Run.{formatted_desk, run_from, AllSmall, found, run_found}

-- what is printed of what a run finds
unfoldable pub found_text : Option (List Bool) → List ℕ
found_text None = bytes "answer=line\n"
found_text (Some cuts) = cuts_text cuts

-- every fill of a line is a byte
pub lines_small : (widths : Widths) (sizes : Sizes) (trial : Bool) (lines : List (List ℕ)) → AllSmall widths sizes trial (map (line_means max_entries) lines)
unfolding Small
lines_small widths sizes trial lines says i =
    let m = Memᴰ.of_map (line_means max_entries) lines i in
    subst (Small widths sizes) m.2
    (line_says (Small widths sizes)
    (record {
      narrow = λ pages slots. tt;
      wide = λ pages slots h. tt;
      launch = λ pages. tt;
      write = λ page slot fill h e. omega arith;
      withdraw = λ page. tt;
      erase = λ slots. tt;
      recover = tt;
      cut = tt;
      listing = tt;
      malformed = tt;
    })
    max_entries m.0)

module _ (widths : Widths) (z : Sizes) where
  -- a first format line is refused by its sizes alone
  zeroed_fits : sizes_ok widths z ≡ true → FitsIn FiveWords widths z (zeroed z)
  unfolding zeroed
  zeroed_fits ok =
      let b = sizes_facts widths z ok in
      record {
        bounds = b.0;
        allowed = b.1;
        flash_sized = record { words_sized = length-replicate (5 * z.slots) 0; contents_sized = length-replicate (z.width * z.slots) 0 };
        state_sized = length-replicate (4 * z.pages) 0;
      }

  pub zeroed_formats : sizes_ok widths z ≡ true → format_outcome widths z (zeroed z) ≡ record { answer = 0; second = 0; left = formatted z }
  unfolding format_answer_in
  zeroed_formats ok = format_done FiveWords widths z (zeroed z) (accepted (fits_test widths z (zeroed z) (zeroed_fits ok)))
    where
      accepted : volume_fits widths z (zeroed z) ≡ true → format_answer_in FiveWords widths z (zeroed z) ≡ 0
      accepted f = rw f

  -- the buffers behind the format follow the model at first
  fresh_from : sizes_ok widths z ≡ true → (n : ℕ) → z.pages ≤ n → Follows widths z (fresh_model z.width) (desk (formatted z) (replicate n no_number) (replicate n 0))
  unfolding fresh_model formatted_in fresh_state at_rest
  fresh_from ok n h =
      let b = sizes_facts widths z ok in
      let fits = formatted_fits back_pointer_lem z b.0 widths b.1 in
      let rests : (p : ℕ) → p < z.pages → in_flight (state_at (formatted z).state p) ≡ false = λ p l. ap in_flight (state_at_words z.pages fresh_state p l) ∙ none_rests (fresh_state p) refl in
      let match = no_rings_match z.pages (state_at (formatted z).state) rests in
      record {
        ready = record {
          fits = fits;
          entered_room = subst (λ (k : ℕ). z.pages ≤ k) (sym (length-replicate n no_number)) h;
          kept_room = subst (λ (k : ℕ). z.pages ≤ k) (sym (length-replicate {A = ℕ} n 0)) h;
        };
        matches = match;
        entered_is = λ p l. let e = get_or-replicate n p no_number 0 (omega arith) in record {
          nothing = λ u c i. never (entered_flies z.pages (state_at (formatted z).state) [] match p c i).flies (rests p l);
          bytes = λ u. absurd (u e);
        };
        kept_is = λ p l. ap (replicate z.width) (sym (get_or-replicate n p 0 0 (omega arith)));
      }

  pub fresh_follows : sizes_ok widths z ≡ true → Follows widths z (fresh_model z.width) (formatted_desk z)
  unfolding formatted_desk
  fresh_follows ok = fresh_from ok 256 (sizes_facts widths z ok).0.pages_most

  module _ (trial : Bool) where
    -- a script that begins with a format line of these sizes: they are wrong, or right
    pub sizes_refused : (rest : List Said) → sizes_ok widths z ≡ false → report_of widths trial (script_of widths (Said.Format z ∷ rest)) ≡ bytes "answer=line\n"
    unfolding script_of on_format report_of format_outcome_in format_answer_in volume_fits_in settled
    sizes_refused rest wrong = rw wrong

    -- of the steps that are recorded, or of none
    steps_reported : (o : Option (List Recorded)) → report_of widths trial (option_map (script z) o) ≡ found_text (option_map (cuts_from (erasing trial) widths z (started (erasing trial) widths z (zeroed z)) (fresh_model z.width)) o)
    unfolding script report_of found_text cuts_of
    steps_reported None = refl
    steps_reported (Some steps) = refl

    pub lines_reported : (rest : List Said) → sizes_ok widths z ≡ true → AllSmall widths z trial rest → report_of widths trial (script_of widths (Said.Format z ∷ rest)) ≡ found_text (run_from widths z trial (formatted_desk z) 1 rest)
    unfolding script_of on_format found started formatted_desk
    lines_reported rest ok small =
        let o = zeroed_formats ok in
        let r = run_found widths z trial (started (erasing trial) widths z (zeroed z)) (fresh_model z.width) (formatted_desk z) (begins o) (fresh_follows ok) 1 (omega arith) rest small in
        let n : 1 + length rest ≡ suc (length rest) = omega arith in
        rw (o, r, n) (by (leb (suc (length rest)) 256))
      where
        by : (t : Bool)
            → report_of widths trial (cond t (option_map (script z) (steps_by z rest)) None)
            ≡ found_text (cond t (option_map (cuts_from (erasing trial) widths z (started (erasing trial) widths z (zeroed z)) (fresh_model z.width)) (steps_by z rest)) None)
        by true = steps_reported (steps_by z rest)
        by false = steps_reported None

        begins : format_outcome widths z (zeroed z) ≡ record { answer = 0; second = 0; left = formatted z } → (started (erasing trial) widths z (zeroed z)).volume ≡ (formatted_desk z).volume
        begins o = ap (λ (x : Outcome Volume). x.left) o

-- a script that begins with another line
pub other_refused : (widths : Widths) (trial : Bool) (first : Said) (rest : List Said) → on_format first (λ s. true) false ≡ false → report_of widths trial (script_of widths (first ∷ rest)) ≡ bytes "answer=line\n"
unfolding script_of on_format report_of
other_refused widths trial (Said.Format own) rest e = absurd (never refl e)
other_refused widths trial (Said.Launch pages) rest e = refl
other_refused widths trial (Said.Write page slot fill) rest e = refl
other_refused widths trial (Said.Withdraw page) rest e = refl
other_refused widths trial (Said.Erase slots) rest e = refl
other_refused widths trial Said.Recover rest e = refl
other_refused widths trial Said.Cut rest e = refl
other_refused widths trial Said.Listing rest e = refl
other_refused widths trial Said.Malformed rest e = refl

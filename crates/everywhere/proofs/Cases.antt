-- Scripts cut everywhere, computed: on 3 pages and 7 slots of 1 byte, and on smaller volumes.
use Rattle.std.specs.Prelude.{ℕ, ◌≡◌, refl, List, [], ◌∷◌, ◌++◌, map, Bool, true, false, not, ◌&&◌, ◌||◌, eqb}
use Rattle.std.proofs.Common.{◌∙◌, eq-eqb, ne_eqb}
use Rattle.bounded.specs.Limits.{no_number}
use Rattle.sizes.specs.Sizes.{sizes_of}
use Rattle.outcome.specs.Outcome.{◌⇒◌otherwise◌, settled}
use Rattle.record.specs.Flash.{Step, apply_all}
use Rattle.table.specs.Given.{given, formatted_records, table_of}
use Rattle.rules.specs.Volume.{volume}
use Rattle.rules.specs.Erase.{erase_answer, erase_steps}
use Rattle.atomicity.specs.Call.{Call, with_flash, perform, planned_stages, flash_stages}
use Rattle.atomicity.specs.Run.{World, steps_cut_short, happens}
use Rattle.atomicity.specs.Model.{Model, Entered, keep, close_all, learns}
use Rattle.atomicity.specs.Promise.{told_of_crash, told}
use Rattle.atomicity.proofs.theorems.RunsComputed.{computing}
use Rattle.everywhere.specs.Cuts.{wiped_state, Recorded, Makes, Point, event_of, up_to, slot_of, stage_points, points_from, are_reads_kept, comes_back, same_after, cuts_in, cuts_from, cuts_of, sames, differs, answer_by, erase_outcome_by, erasing}
use Rattle.everywhere.specs.Cases.{any_width, buffers, found, case6, case6_then, CutsComputed}

-- A name for "these definitions compute": a declaration that unfolds it unfolds them all.
unfoldable pub cuts_computing : Unit {0}
unfolding computing wiped_state event_of up_to slot_of stage_points points_from are_reads_kept comes_back same_after cuts_in cuts_from cuts_of sames differs answer_by erase_outcome_by
cuts_computing = tt

-- ---- case 6's script with any fills

-- the volume that it leaves: slots 0 to 2 hold the formatted records, 3 (0,1,0,1,1), 4 (1,2,0,2,1), 5 (2,1,0,1,2) and 6 (1,3,2,1,3)
unfoldable pub left6 : (a b c d : ℕ) → World
left6 a b c d =
    record {
      volume = volume (table_of 7 (formatted_records 3 ++ given 0 1 0 1 1 ∷ given 1 2 0 2 1 ∷ given 2 1 0 1 2 ∷ given 1 3 2 1 3 ∷ [])) (0 ∷ 0 ∷ 0 ∷ a ∷ b ∷ c ∷ d ∷ []) (0 ∷ 1 ∷ no_number ∷ 0 ∷ 3 ∷ 3 ∷ no_number ∷ 0 ∷ 1 ∷ 1 ∷ no_number ∷ 0 ∷ []);
      lost = false;
    }

-- what is kept then
unfoldable pub kept6 : (b c d : ℕ) → Model
kept6 b c d = record { kept = keep (Entered 1 (d ∷ []) ∷ []) (keep (Entered 1 (b ∷ []) ∷ Entered 2 (c ∷ []) ∷ []) (λ p. 0 ∷ [])); rings = [] }

-- what is found up to there, and then
fills_then :
    (a b c d : ℕ) (script : List Recorded)
    → found true 3 7 1 (case6 a b c d ++ script)
    ≡ true ∷ true ∷ (eqb b b && eqb c c) ∷ (eqb d d && eqb c c) ∷ cuts_from (erasing true) any_width (sizes_of 3 7 1) (left6 a b c d) (kept6 b c d) script
unfolding cuts_computing any_width buffers found case6 left6 kept6
fills_then a b c d script = refl

-- erase refuses the straddler: its one twin is itself
straddler_refused : (a b c d : ℕ) → erase_answer any_width (sizes_of 3 7 1) (left6 a b c d).volume (4 ∷ []) ≡ 12
unfolding cuts_computing any_width left6
straddler_refused a b c d = by (eqb b b)
  where
    by : (same : Bool) → (not ((((same && false) || false) || false) || false) ⇒ 12 otherwise 0) ≡ 12
    by true = refl
    by false = refl

-- … so that a trial erase of it has one stage with one step
trial_stages : (a b c d : ℕ) → flash_stages (erasing true) any_width (sizes_of 3 7 1) (left6 a b c d).volume (Call.Erase (4 ∷ [])) ≡ (Step.Blank 4 ∷ []) ∷ []
unfolding flash_stages perform with_flash planned_stages erase_steps erase_outcome_by answer_by settled
trial_stages a b c d = rw (straddler_refused a b c d)

-- the cuts of an erase with these stages
unfoldable cuts_by : (a b c d : ℕ) → List (List Step) → List Bool
cuts_by a b c d stages =
    map (λ (p : Point). comes_back (erasing true) any_width (sizes_of 3 7 1) (record { flash = apply_all 1 (left6 a b c d).volume.flash (steps_cut_short p.stage p.done stages); state = wiped_state (sizes_of 3 7 1) }) (kept6 b c d).kept) (points_from 0 stages)

trial_cuts : (a b c d : ℕ) → cuts_from (erasing true) any_width (sizes_of 3 7 1) (left6 a b c d) (kept6 b c d) (Makes (Call.Erase (4 ∷ [])) ∷ []) ≡ cuts_by a b c d ((Step.Blank 4 ∷ []) ∷ []) ++ []
unfolding cuts_from cuts_in same_after happens told told_of_crash learns close_all cuts_by
trial_cuts a b c d = rw (trial_stages a b c d)

trial_found : (a b c d : ℕ) → cuts_by a b c d ((Step.Blank 4 ∷ []) ∷ []) ≡ ((eqb a 0 && eqb d d) && eqb c c) ∷ []
unfolding cuts_computing any_width left6 kept6 cuts_by
trial_found a b c d = refl

every_fill : (a b c d : ℕ) → ¬ (a ≡ 0) → found true 3 7 1 (case6 a b c d ++ Makes (Call.Erase (4 ∷ [])) ∷ []) ≡ true ∷ true ∷ true ∷ true ∷ false ∷ []
every_fill a b c d h =
    fills_then a b c d (Makes (Call.Erase (4 ∷ [])) ∷ [])
    ∙ rw (trial_cuts a b c d, trial_found a b c d, eq-eqb b b refl, eq-eqb c c refl, eq-eqb d d refl, ne_eqb a 0 h) refl

untold : (b c d : ℕ) → found true 3 7 1 (case6 0 b c d ++ Makes (Call.Erase (4 ∷ [])) ∷ []) ≡ true ∷ true ∷ true ∷ true ∷ true ∷ []
untold b c d = fills_then 0 b c d (Makes (Call.Erase (4 ∷ [])) ∷ []) ∙ rw (trial_cuts 0 b c d, trial_found 0 b c d, eq-eqb b b refl, eq-eqb c c refl, eq-eqb d d refl) refl

-- ---- the cases hold

pub cuts_computed : CutsComputed
unfolding cuts_computing any_width buffers found case6 case6_then
cuts_computed =
    record {
      own = refl;
      own_erases = refl;
      trial = refl;
      every_fill = every_fill;
      untold = untold;
      rising = refl;
      rising_three = refl;
      one_page = refl;
      last_byte = refl;
      refused = refl;
      stored_again = refl;
      completed = refl;
      refused_twice = refl;
      refused_past = refl;
    }

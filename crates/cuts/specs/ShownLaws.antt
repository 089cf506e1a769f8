-- … and proved.
use Rattle.std.specs.Prelude.{ℕ, suc, ◌+◌, ◌*◌, ◌≤◌, ◌<◌, Bool, true, cond, ◌&&◌, eqb, take, drop}
use native.Mathlib.Omega.{arith}
use Rattle.std.proofs.Math.Path.{◌≡◌, refl, sym, ap, subst}
use Rattle.std.proofs.Common.{ap₂, ◌∙◌, length-take, take_all}
use Rattle.std.specs.Prelude.{Option, None, Some, option_map}
use Rattle.std.proofs.lemmas.Option.{same_Some}
use mathlib.Core.List.{List, [], ◌∷◌, ◌++◌, map}
use Rattle.std.proofs.Math.Bool.{false}
use Rattle.std.proofs.Math.Dec.{leb}
use Rattle.std.proofs.Math.ListN.{length, length-map}
use borrow.Author.Tests.{lt-ltb, eqb-true, leb-true}
use Rattle.bounded.specs.Limits.{Widths, two_widths}
use Rattle.bounded.specs.Choice.{on_lt, on_test, both_left, both_right}
use Rattle.outcome.specs.Outcome.{Outcome}
use Rattle.outcome.specs.OutcomeLaws.{settled_answer}
use Rattle.sizes.specs.declared.Layout.TheVariants.{FiveWords}
use Rattle.sizes.specs.declared.Sizes.{Sizes}
use Rattle.text.specs.Scan.{bytes}
use Rattle.text.specs.Print.{shown, added, decimal}
use Rattle.text.specs.PrintLaws.{field_room, all_put, put_ends}
use Rattle.text.specs.Lines.{onto, lines_of}
use Rattle.line.specs.Line.{Said, on_format, max_entries, line_means}
use Rattle.rules.specs.Volume.{Volume}
use Rattle.rules.specs.Format.{formatted, format_answer, format_outcome, format_outcome_in}
use Rattle.rules.specs.laws.Volume.{FitsIn}
use Rattle.rules.proofs.laws.Outcomes.{format_done}
use Rattle.dispatch.specs.Dispatch.{accepted, line_outcome}
use Rattle.atomicity.specs.Call.{perform, with_state, with_flash}
use Rattle.atomicity.specs.Family.{Family, back_pointer}
use Rattle.atomicity.specs.Run.{World, happens, started, after}
use Rattle.atomicity.specs.Model.{Model, learns, fresh_model}
use Rattle.atomicity.specs.Promise.{told}
use Rattle.everywhere.specs.Cuts.{Recorded, event_of, cuts_of, sames, differs, erasing}
use Rattle.everywhere.proofs.Laws.{Reached, holding_fits, reached_step, reached_first, own_erase, cut_everywhere}
use Rattle.cuts.specs.Recording.{step_by, joined, steps_by, Script, script, zeroed, script_of, recording, counts_text, cuts_text, report_of, report_text}
use Rattle.recorded.specs.StepLaws.{lost_wiped}
use Rattle.cuts.specs.Shown.{slots_of_script, ReportShown, longest_script, EnoughRead, longest_report, RoomEnough, lines_leave, AllLinesRun}

-- ---- a script that is none, or one whose format is accepted

module _ (widths : Widths) where
  -- what the test of a format line says where it is passed
  passes : (z : Sizes) (t : Bool) (o : Option (List Recorded)) (s : Script) → cond t (option_map (script z) o) None ≡ Some s → (t ≡ true) × ((steps : List Recorded) × (o ≡ Some steps) × (script z steps ≡ s))
  passes z true (Some steps) s e = (refl, (steps, refl, same_Some (script z steps) s e))
  passes z true None s e = absurd (let w : ◌≡◌ {A = ℕ} 0 1 = cc in omega arith)
  passes z false o s e = absurd (let w : ◌≡◌ {A = ℕ} 0 1 = cc in omega arith)

  -- a script: its format line and the others
  record Passed (lines : List Said) (s : Script) : Type 0 where
    rest : List Said
    formats : lines ≡ Said.Format s.sizes ∷ rest
    accepts : (format_outcome widths s.sizes (zeroed s.sizes)).answer ≡ 0
    few : suc (length rest) ≤ 256
    records : steps_by s.sizes rest ≡ Some s.steps

  passed_format : (z : Sizes) (rest : List Said) (s : Script) → script_of widths (Said.Format z ∷ rest) ≡ Some s → Passed (Said.Format z ∷ rest) s
  unfolding script_of on_format script
  passed_format z rest s e =
      let p = passes z (eqb (format_outcome widths z (zeroed z)).answer 0 && leb (suc (length rest)) 256) (steps_by z rest) s e in
      let a = both_left (eqb (format_outcome widths z (zeroed z)).answer 0) (leb (suc (length rest)) 256) p.0 in
      let b = both_right (eqb (format_outcome widths z (zeroed z)).answer 0) (leb (suc (length rest)) 256) p.0 in
      subst (Passed (Said.Format z ∷ rest)) p.1.2
      (record { rest = rest; formats = refl; accepts = eqb-true (format_outcome widths z (zeroed z)).answer 0 a; few = leb-true (suc (length rest)) 256 b; records = p.1.1 })

  passed : (lines : List Said) (s : Script) → script_of widths lines ≡ Some s → Passed lines s
  unfolding script_of on_format
  passed [] s e = absurd (let w : ◌≡◌ {A = ℕ} 0 1 = cc in omega arith)
  passed (Said.Format z ∷ rest) s e = passed_format z rest s e
  passed (Said.Launch pages ∷ rest) s e = absurd (let w : ◌≡◌ {A = ℕ} 0 1 = cc in omega arith)
  passed (Said.Write page slot fill ∷ rest) s e = absurd (let w : ◌≡◌ {A = ℕ} 0 1 = cc in omega arith)
  passed (Said.Withdraw page ∷ rest) s e = absurd (let w : ◌≡◌ {A = ℕ} 0 1 = cc in omega arith)
  passed (Said.Erase slots ∷ rest) s e = absurd (let w : ◌≡◌ {A = ℕ} 0 1 = cc in omega arith)
  passed (Said.Recover ∷ rest) s e = absurd (let w : ◌≡◌ {A = ℕ} 0 1 = cc in omega arith)
  passed (Said.Cut ∷ rest) s e = absurd (let w : ◌≡◌ {A = ℕ} 0 1 = cc in omega arith)
  passed (Said.Listing ∷ rest) s e = absurd (let w : ◌≡◌ {A = ℕ} 0 1 = cc in omega arith)
  passed (Said.Malformed ∷ rest) s e = absurd (let w : ◌≡◌ {A = ℕ} 0 1 = cc in omega arith)

  -- what a text records is a script whose format is accepted
  recorded_passes : (text : List ℕ) (s : Script) → recording widths text ≡ Some s → Passed (map (line_means max_entries) (lines_of text)) s
  unfolding recording
  recorded_passes text s e = passed (map (line_means max_entries) (lines_of text)) s e

  -- what is printed of a script
  recorded_text : (trial : Bool) (text : List ℕ) (s : Script) → recording widths text ≡ Some s → report_text widths trial text ≡ cuts_text (cuts_of (erasing trial) widths s.sizes (zeroed s.sizes) s.steps)
  unfolding report_text report_of
  recorded_text trial text s e = rw e

  pub report_shown : ReportShown widths
  unfolding report_text report_of cuts_text slots_of_script
  report_shown =
      let c = cut_everywhere widths in
      record {
        refused = λ trial text e. rw e;
        counted = λ trial text s e.
            let n = c.counted trial s.sizes (zeroed s.sizes) s.steps in
            let b = c.either trial s.sizes (zeroed s.sizes) s.steps in
            (_, _, b ∙ n, recorded_text trial text s e ∙ ap (λ (k : ℕ). counts_text k (sames (cuts_of (erasing trial) widths s.sizes (zeroed s.sizes) s.steps)) (differs (cuts_of (erasing trial) widths s.sizes (zeroed s.sizes) s.steps))) n);
        own = λ text s e.
            let f = (recorded_passes text s e).accepts in
            let n = c.counted false s.sizes (zeroed s.sizes) s.steps in
            let a = c.all_same s.sizes (zeroed s.sizes) f s.steps in
            let d = c.none_differs s.sizes (zeroed s.sizes) f s.steps in
            recorded_text false text s e ∙ rw (a, d, n);
      }

-- ---- a text of a script is not longer than the longest

-- the bytes of these lines with their line ends
unfoldable total : List (List ℕ) → ℕ
total [] = 0
total (line ∷ lines) = suc (length line) + total lines

onto_total : (b : ℕ) (lines : List (List ℕ)) → suc (total lines) ≤ total (onto b lines)
unfolding onto total
onto_total b [] = omega arith
onto_total b (line ∷ lines) = omega arith

text_total : (text : List ℕ) → length text ≤ total (lines_of text)
unfolding lines_of total
text_total [] = omega arith
text_total (b ∷ text) =
    let h = text_total text in
    on_test (eqb b 10)
    (λ e. rw e (omega arith))
    (λ e. let o = onto_total b (lines_of text) in rw e (omega arith))

-- a line of more than 512 bytes is malformed
too_long_line : (line : List ℕ) → 512 < length line → line_means max_entries line ≡ Said.Malformed
unfolding line_means
too_long_line line h = rw (lt-ltb 512 (length line) h)

joined_both : (a b : Option (List Recorded)) (steps : List Recorded) → joined a b ≡ Some steps → ((x : List Recorded) × (a ≡ Some x)) × ((y : List Recorded) × (b ≡ Some y))
unfolding joined
joined_both None b steps e = absurd (let w : ◌≡◌ {A = ℕ} 0 1 = cc in omega arith)
joined_both (Some x) None steps e = absurd (let w : ◌≡◌ {A = ℕ} 0 1 = cc in omega arith)
joined_both (Some x) (Some y) steps e = ((x, refl), (y, refl))

-- lines that record steps have at most 512 bytes each
steps_total : (z : Sizes) (lines : List (List ℕ)) (steps : List Recorded) → steps_by z (map (line_means max_entries) lines) ≡ Some steps → total lines ≤ 513 * length lines
unfolding steps_by step_by total
steps_total z [] steps e = omega arith
steps_total z (line ∷ lines) steps e =
    let j = joined_both (step_by z (line_means max_entries line)) (steps_by z (map (line_means max_entries) lines)) steps e in
    let t = steps_total z lines j.1.0 j.1.1 in
    on_lt 512 (length line)
    (λ l. let m : ◌≡◌ {A = Option (List Recorded)} None (Some j.0.0) = sym (ap (step_by z) (too_long_line line l)) ∙ j.0.1 in absurd (let w : ◌≡◌ {A = ℕ} 0 1 = cc in omega arith))
    (λ l. omega arith)

module _ (widths : Widths) (trial : Bool) where
  -- the lines of a script, with their line ends
  script_total : (lines : List (List ℕ)) (s : Script) → Passed widths (map (line_means max_entries) lines) s → total lines ≤ longest_script
  unfolding total
  script_total [] s p = omega arith
  script_total (line ∷ lines) s p =
      let first : line_means max_entries line ≡ Said.Format s.sizes = cc in
      let rest : map (line_means max_entries) lines ≡ p.rest = cc in
      let t = steps_total s.sizes lines s.steps (ap (steps_by s.sizes) rest ∙ p.records) in
      let n = length-map lines (line_means max_entries) in
      let r = ap length rest in
      let f = p.few in
      let e = p.formats in
      on_lt 512 (length line)
      (λ l. let m = sym (too_long_line line l) ∙ first in absurd (let w : ◌≡◌ {A = ℕ} 0 1 = cc in omega arith))
      (λ l. omega arith)

  too_long : (text : List ℕ) → longest_script < length text → report_text widths trial text ≡ bytes "answer=line\n"
  unfolding report_text report_of
  too_long text h = by (recording widths text) (λ s e. script_total (lines_of text) s (recorded_passes widths text s e))
    where
      by : (o : Option Script) → ((s : Script) → o ≡ Some s → total (lines_of text) ≤ longest_script) → report_of widths trial o ≡ bytes "answer=line\n"
      by None k = refl
      by (Some s) k = absurd (let t = text_total text in let u = k s refl in omega arith)

pub enough_read : (widths : Widths) → EnoughRead widths
enough_read widths trial text =
    on_lt (suc longest_script) (length text)
    (λ l. let n = length-take (suc longest_script) text in too_long widths trial (take (suc longest_script) text) (omega arith) ∙ sym (too_long widths trial text (omega arith)))
    (λ l. ap (report_text widths trial) (take_all (suc longest_script) text l))

-- ---- what is printed has its room

counts_room : (cuts same differ : ℕ) → length (counts_text cuts same differ) ≤ longest_report
unfolding counts_text bytes
counts_room cuts same differ =
    let a = field_room (bytes "cuts=") (bytes " same=" ++ (decimal same ++ (bytes " differ=" ++ (decimal differ ++ bytes "\n")))) cuts in
    let b = field_room (bytes " same=") (bytes " differ=" ++ (decimal differ ++ bytes "\n")) same in
    let c = field_room (bytes " differ=") (bytes "\n") differ in
    omega arith

report_room : (widths : Widths) (trial : Bool) (o : Option Script) → length (report_of widths trial o) ≤ longest_report
unfolding report_of cuts_text bytes
report_room widths trial None = omega arith
report_room widths trial (Some s) = counts_room _ _ _

pub room_enough : (widths : Widths) → RoomEnough widths
unfolding report_text
room_enough widths trial text out left r h l e = let m = report_room widths trial (recording widths text) in all_put out left (report_text widths trial text) r (omega arith) l e

-- so what is printed ends in the buffer
pub report_ends : (trial : Bool) (text out left : List ℕ) (r : ℕ) → longest_report < length out → length left ≡ length out → shown left r ≡ added out 0 (report_text two_widths trial text) → r ≤ length left
unfolding report_text
report_ends trial text out left r h l e = let m = report_room two_widths trial (recording two_widths text) in put_ends out left (report_text two_widths trial text) r (omega arith) l e

-- ---- all lines are run

module _ (widths : Widths) (sizes : Sizes) where
  -- a line does to the volume what it does in the script program
  line_agrees : (v : Volume) → FitsIn FiveWords widths sizes v → (lost : Bool) (line : Said) (steps : List Recorded) → step_by sizes line ≡ Some steps → (after back_pointer widths sizes (record { volume = v; lost = lost }) (map (event_of sizes) steps)).volume ≡ (line_outcome widths sizes v line).left
  unfolding step_by after happens event_of perform with_state with_flash line_outcome accepted
  line_agrees v fits lost line steps e = by line steps e
    where
      known_as : (known steps : List Recorded) (line : Said) → ◌≡◌ {A = Option (List Recorded)} (Some known) (Some steps)
          → (after back_pointer widths sizes (record { volume = v; lost = lost }) (map (event_of sizes) known)).volume ≡ (line_outcome widths sizes v line).left
          → (after back_pointer widths sizes (record { volume = v; lost = lost }) (map (event_of sizes) steps)).volume ≡ (line_outcome widths sizes v line).left
      known_as known steps line e h = subst (λ (l : List Recorded). (after back_pointer widths sizes (record { volume = v; lost = lost }) (map (event_of sizes) l)).volume ≡ (line_outcome widths sizes v line).left) (same_Some known steps e) h

      by : (line : Said) (steps : List Recorded) → step_by sizes line ≡ Some steps → (after back_pointer widths sizes (record { volume = v; lost = lost }) (map (event_of sizes) steps)).volume ≡ (line_outcome widths sizes v line).left
      by (Said.Format own) steps e = absurd (let w : ◌≡◌ {A = ℕ} 0 1 = cc in omega arith)
      by (Said.Launch pages) steps e = known_as _ steps (Said.Launch pages) e refl
      by (Said.Write page slot fill) steps e = known_as _ steps (Said.Write page slot fill) e refl
      by (Said.Withdraw page) steps e = known_as _ steps (Said.Withdraw page) e refl
      by (Said.Erase slots) steps e = known_as _ steps (Said.Erase slots) e refl
      by Said.Recover steps e = known_as _ steps Said.Recover e refl
      by Said.Cut steps e = known_as _ steps Said.Cut e (ap (λ (s : List ℕ). record { flash = v.flash; state = s }) (sym (lost_wiped sizes v.state fits.state_sized)))
      by Said.Listing steps e = known_as _ steps Said.Listing e refl
      by Said.Malformed steps e = absurd (let w : ◌≡◌ {A = ℕ} 0 1 = cc in omega arith)

  -- the rest of a run behind its first steps
  after_both : (x : World) (a b : List Recorded) → after back_pointer widths sizes x (map (event_of sizes) (a ++ b)) ≡ after back_pointer widths sizes (after back_pointer widths sizes x (map (event_of sizes) a)) (map (event_of sizes) b)
  unfolding after
  after_both x [] b = refl
  after_both x (r ∷ a) b = after_both (happens back_pointer widths sizes x (event_of sizes r)) a b

  reached_after : (x : World) (m : Model) → Reached widths sizes x m → (steps : List Recorded) → (n : Model) × Reached widths sizes (after back_pointer widths sizes x (map (event_of sizes) steps)) n
  unfolding after
  reached_after x m k [] = (m, k)
  reached_after x m k (r ∷ steps) = reached_after (happens back_pointer widths sizes x (event_of sizes r)) (learns m (told back_pointer widths sizes x (event_of sizes r))) (reached_step widths sizes x m k r) steps

  lines_run : (x : World) (m : Model) → Reached widths sizes x m → (lines : List Said) (steps : List Recorded) → steps_by sizes lines ≡ Some steps → (after back_pointer widths sizes x (map (event_of sizes) steps)).volume ≡ lines_leave widths sizes x.volume lines
  unfolding steps_by joined lines_leave after
  lines_run x m k [] steps e = ap (λ (l : List Recorded). (after back_pointer widths sizes x (map (event_of sizes) l)).volume) (sym (same_Some [] steps e))
  lines_run x m k (line ∷ lines) steps e =
      let j = joined_both (step_by sizes line) (steps_by sizes lines) steps e in
      let first = j.0.0 in
      let rest = j.1.0 in
      let both : first ++ rest ≡ steps = same_Some (first ++ rest) steps (sym (ap₂ joined j.0.1 j.1.1) ∙ e) in
      let y = after back_pointer widths sizes x (map (event_of sizes) first) in
      let r = reached_after x m k first in
      let here = line_agrees x.volume (holding_fits widths sizes x m k.holding) x.lost line first j.0.1 in
      ap (λ (l : List Recorded). (after back_pointer widths sizes x (map (event_of sizes) l)).volume) (sym both)
      ∙ ap (λ (u : World). u.volume) (after_both x first rest)
      ∙ lines_run y r.0 r.1 lines rest j.1.1
      ∙ ap (λ (v : Volume). lines_leave widths sizes v lines) here

pub all_lines_run : (widths : Widths) → AllLinesRun widths
unfolding started format_outcome_in
all_lines_run widths text s e =
    let p = recorded_passes widths text s e in
    let z = s.sizes in
    let a : format_answer widths z (zeroed z) ≡ 0 = sym (settled_answer (format_answer widths z (zeroed z)) 0 0 (zeroed z) (formatted z)) ∙ p.accepts in
    let v : (started back_pointer widths z (zeroed z)).volume ≡ formatted z = ap (λ (o : Outcome Volume). o.left) (format_done FiveWords widths z (zeroed z) a) in
    let run = lines_run widths z (started back_pointer widths z (zeroed z)) (fresh_model z.width) (reached_first widths z (zeroed z) p.accepts) p.rest s.steps p.records in
    subst (λ (F : Family). (after F widths z (started F widths z (zeroed z)) (map (event_of z) s.steps)).volume ≡ lines_leave widths z (formatted z) (drop 1 (map (line_means max_entries) (lines_of text)))) (sym own_erase)
    (run ∙ ap₂ (lines_leave widths z) v (sym (ap (drop 1) p.formats)))

-- Laws of a line's turn.
use Rattle.std.specs.Prelude.{Result, Ok, Err, ℕ, ◌*◌, ◌-◌, ◌≤◌, ◌<◌, min, ◌≡◌, List, Bool, true, false, eqb, length, take, drop}
use Rattle.std.proofs.Common.{arith, ap, ◌∙◌, ne_eqb, eq-eqb}
use Rattle.std.proofs.Math.Path.{sym}
use Rattle.std.proofs.Math.Bool.{cond}
use borrow.Rule.Slice.PartMut.{put_mid}
use Rattle.bounded.specs.Limits.{Widths}
use Rattle.bounded.specs.Choice.{on_test}
use Rattle.std.specs.Result.{result_unwrap_or}
use Rattle.outcome.specs.declared.Refusal.{Refusal}
use Rattle.outcome.specs.Result.{answer_of, outcome_by}
use Rattle.sizes.specs.declared.Sizes.{Sizes}
use Rattle.text.specs.declared.print.Printout.{Printout}
use Rattle.line.specs.Line.{Said, on_format}
use Rattle.rules.specs.Volume.{Volume, volume}
use Rattle.rules.specs.Format.{format_answer}
use Rattle.sizes.specs.declared.Layout.TheVariants.{FiveWords}
use Rattle.rules.proofs.laws.Outcomes.{format_refused as volume_refused}
use Rattle.dispatch.specs.Dispatch.{accepted, line_outcome}
use Rattle.report.specs.declared.Run.{Run}
use Rattle.report.specs.Report.{Standing, standing, with_memory, idle_turn, refused_turn, formatted, told}
use Rattle.report.specs.ReportLaws.{Went, went_idle}
use Rattle.script.specs.Memory.{in_use, volume_back}
use Rattle.script.specs.MemoryLaws.{volume_same, volume_lent, volume_put}
use Rattle.script.specs.Script.{volume_turn, sizes_for, in_front, line_turn, is_format, is_early, turn}

module _ (run s : Run) (m : Volume) (out out₁ : Printout) where
  -- a line's call, and what is said of it
  pub went_volume :
      (widths : Widths) (z : Sizes) (says : Said) (given : Result ℕ Refusal) (m₁ : Volume) → outcome_by 0 given m₁ ≡ line_outcome widths z m says
      → Went s m₁ out out₁ (told widths (standing run m₁) says (answer_of given) (result_unwrap_or given 0)) → Went s m₁ out out₁ (volume_turn widths z (standing run m) says)
  unfolding volume_turn with_memory standing
  went_volume widths z says (Ok second) m₁ e h = rw (← e) h
  went_volume widths z says (Err refusal) m₁ e h = rw (← e) h

  -- a turn on the volume in front of memory, lent and put back
  pub went_in_front :
      (widths : Widths) (z : Sizes) (says : Said) (kw kb ks : ℕ) (words contents state : List ℕ)
      → kw ≡ min (5 * z.slots) (length m.flash.words) → kb ≡ min (z.width * z.slots) (length m.flash.contents) → ks ≡ min (4 * z.pages) (length m.state)
      → Went s (volume words contents state) out out₁
      (volume_turn widths z (standing run (volume (take (kw - 0) (drop 0 m.flash.words)) (take (kb - 0) (drop 0 m.flash.contents)) (take (ks - 0) (drop 0 m.state)))) says)
      → Went s (volume (put_mid 0 (kw - 0) m.flash.words words) (put_mid 0 (kb - 0) m.flash.contents contents) (put_mid 0 (ks - 0) m.state state)) out out₁
      (in_front widths z (standing run m) says)
  unfolding in_front with_memory standing
  went_in_front widths z says kw kb ks words contents state ew eb es h =
      let lent = volume_lent z m kw kb ks ew eb es in
      let g = rw lent at h in
      rw (volume_put z m kw kb ks ew eb es words contents state)
      (ap (λ (x : Standing). with_memory x (volume_back z m x.memory)) g.0, g.1)

-- a line that comes too early is a malformed one
unfoldable pub in_time : ℕ → Said → Said
in_time pages says = cond (is_early pages says) Said.Malformed says

pub in_time_later : (pages : ℕ) (says : Said) → 0 < pages → says ≡ in_time pages says
unfolding in_time is_early
in_time_later pages says h = let q : eqb pages 0 ≡ false = ne_eqb _ _ (λ (z : pages ≡ 0). omega arith) in rw q

pub in_time_first : (pages : ℕ) (says : Said) → pages ≤ 0 → is_format says ≡ true → says ≡ in_time pages says
unfolding in_time is_early
in_time_first pages says h f = let q : eqb pages 0 ≡ true = eq-eqb pages 0 (omega arith) in rw (q, f)

pub too_early : (pages : ℕ) (says : Said) → pages ≤ 0 → is_format says ≡ false → Said.Malformed ≡ in_time pages says
unfolding in_time is_early
too_early pages says h f = let q : eqb pages 0 ≡ true = eq-eqb pages 0 (omega arith) in rw (q, f)

pub still_malformed : (pages : ℕ) → Said.Malformed ≡ in_time pages Said.Malformed
unfolding in_time
still_malformed pages = on_test (is_early pages Said.Malformed) (λ e. rw e) (λ e. rw e)

-- a line after the end, and any other
module _ (widths : Widths) (s : Standing) (says : Said) where
  over_turned : s.over ≡ true → turn widths s says ≡ idle_turn s
  unfolding turn
  over_turned o = rw o

  malformed_turned : line_turn widths s Said.Malformed ≡ refused_turn s
  unfolding line_turn in_front volume_turn line_outcome accepted told refused_turn with_memory
  malformed_turned = rw (volume_same _ s.memory)

  in_time_turned : line_turn widths s (in_time s.sizes.pages says) ≡ cond (is_early s.sizes.pages says) (refused_turn s) (line_turn widths s says)
  unfolding in_time
  in_time_turned = on_test (is_early s.sizes.pages says) (λ e. rw e malformed_turned) (λ e. rw e)

  line_turned : s.over ≡ false → line_turn widths s (in_time s.sizes.pages says) ≡ turn widths s says
  unfolding turn
  line_turned o = in_time_turned ∙ sym (ap (λ (over : Bool). cond over (idle_turn s) (cond (is_early s.sizes.pages says) (refused_turn s) (line_turn widths s says))) o)

module _ (widths : Widths) (run : Run) (m : Volume) (out : Printout) (says : Said) where
  pub went_over : run.over ≡ true → Went run m out out (turn widths (standing run m) says)
  unfolding standing
  went_over o = rw (over_turned widths (standing run m) says o) (went_idle run m out)

  pub went_line :
      (s : Run) (m₁ : Volume) (out₁ : Printout) (z : Sizes) (timely : Said) → run.over ≡ false → timely ≡ in_time run.sizes.pages says → z ≡ sizes_for (standing run m) timely
      → Went s m₁ out out₁ (in_front widths z (standing run m) timely) → Went s m₁ out out₁ (turn widths (standing run m) says)
  unfolding standing line_turn
  went_line s m₁ out₁ z timely o et ez h = rw (← line_turned widths (standing run m) says o, ← et, ← ez) h

  -- a malformed one, or one that comes too early
  pub went_malformed :
      (s : Run) (out₁ : Printout) → run.over ≡ false → Said.Malformed ≡ in_time run.sizes.pages says
      → Went s m out out₁ (refused_turn (standing run m)) → Went s m out out₁ (turn widths (standing run m) says)
  unfolding standing
  went_malformed s out₁ o et h =
      rw (← line_turned widths (standing run m) says o, ← et, malformed_turned widths (standing run m) says) h

-- "A refused later format leaves the volume as it was": everything is where it was.
pub refused_format : (widths : Widths) (s : Standing) (z : Sizes) → ¬ (format_answer widths z (in_use z s.memory) ≡ 0) → (line_turn widths s (Said.Format z)).leaves ≡ s
unfolding line_turn sizes_for on_format in_front volume_turn line_outcome told formatted with_memory
refused_format widths s z d =
    let e = volume_refused FiveWords widths z (in_use z s.memory) d in
    let q : eqb (format_answer widths z (in_use z s.memory)) 0 ≡ false = ne_eqb _ _ d in
    rw (e, q, volume_same z s.memory)

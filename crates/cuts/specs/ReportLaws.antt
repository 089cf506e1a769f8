-- A text's report, by its first line and what the others come to.
use Rattle.std.specs.Prelude.{ℕ, zero, suc, ◌+◌, ◌-◌, ◌<◌, min, refl, Bool, true, false, length, take, drop}
use native.Mathlib.Omega.{arith}
use Rattle.std.proofs.Math.Path.{◌≡◌, sym, ap}
use Rattle.std.proofs.Common.{◌∙◌}
use Rattle.std.specs.Prelude.{Option, None, Some, option_map}
use Rattle.std.proofs.lemmas.Option.{same_Some}
use mathlib.Core.List.{List, [], ◌∷◌}
use Rattle.bounded.specs.Limits.{two_widths}
use Rattle.sizes.specs.declared.Sizes.{Sizes}
use Rattle.sizes.specs.Sizes.{sizes_ok}
use Rattle.text.specs.Scan.{bytes}
use Rattle.text.specs.Lines.{lines_of}
use Rattle.line.specs.Line.{Said, on_format, max_entries, line_means}
use Rattle.line.specs.Computing.{computing as line_computing}
use Rattle.everywhere.specs.Cuts.{sames, differs}
use Rattle.everywhere.proofs.Laws.{same_or_not}
use Rattle.cutpoint.specs.declared.Tally.{Tally}
use Rattle.cutpoint.specs.Judged.{tallied}
use Rattle.cuts.specs.Recording.{script_of, recording, counts_text, cuts_text, report_of, report_text}
use Rattle.cuts.specs.Lines.{line_length, lines_next}
use Rattle.cuts.specs.Run.{formatted_desk, run_from}
use Rattle.cuts.specs.Reported.{found_text, lines_small, sizes_refused, lines_reported, other_refused}
use Rattle.cuts.specs.Ran.{none_yet, said_in}

-- ---- the first line

by_length : {A : Type 0} (text : List ℕ) → (text ≡ [] → A) → (0 < length text → A) → A
by_length [] f g = f refl
by_length (b ∷ text) f g = g (omega arith)

take_none : (n : ℕ) → ◌≡◌ {A = List ℕ} (take n []) []
take_none zero = refl
take_none (suc n) = refl

-- a line with no byte is malformed
line_none : line_means max_entries [] ≡ Said.Malformed
unfolding line_computing
line_none = refl

module _ (trial : Bool) (text : List ℕ) (end : ℕ) (e : end ≡ 0 + line_length (drop 0 text)) (says : Said) (s : says ≡ line_means max_entries (take (end - 0) (drop 0 text))) where
  -- a text with no byte has no line
  nothing : text ≡ [] → report_text two_widths trial text ≡ bytes "answer=line\n"
  unfolding report_text recording report_of script_of lines_of
  nothing z = rw z

  -- the report by what the first line says and by those behind it
  first : (next : ℕ) → next ≡ min (end + 1) (length text) → 0 < length text → report_text two_widths trial text ≡ report_of two_widths trial (script_of two_widths (says ∷ said_in (drop next text)))
  unfolding report_text recording said_in
  first next n h =
      let l = lines_next text 0 end next e n h in
      let k : end - 0 ≡ line_length (drop 0 text) = omega arith in
      let f : says ≡ line_means max_entries (take (line_length (drop 0 text)) (drop 0 text)) = s ∙ ap (λ (j : ℕ). line_means max_entries (take j (drop 0 text))) k in
      rw (l, f)

  pub not_format : on_format says (λ z. true) false ≡ false → bytes "answer=line\n" ≡ report_text two_widths trial text
  not_format o = by_length text (λ empty. sym (nothing empty)) (λ h. sym (first (min (end + 1) (length text)) refl h ∙ other_refused two_widths trial says (said_in (drop (min (end + 1) (length text)) text)) o))

  module _ (z : Sizes) (is : says ≡ Said.Format z) where
    pub wrong_sizes_lem : sizes_ok two_widths z ≡ false → bytes "answer=line\n" ≡ report_text two_widths trial text
    wrong_sizes_lem w =
        by_length text (λ empty. sym (nothing empty))
        (λ h.
        let rest = said_in (drop (min (end + 1) (length text)) text) in
        sym (first (min (end + 1) (length text)) refl h ∙ ap (λ (x : Said). report_of two_widths trial (script_of two_widths (x ∷ rest))) is ∙ sizes_refused two_widths z trial rest w))

    pub right_sizes : (next : ℕ) → next ≡ min (end + 1) (length text) → sizes_ok two_widths z ≡ true → found_text (run_from two_widths z trial (formatted_desk z) 1 (said_in (drop next text))) ≡ report_text two_widths trial text
    unfolding said_in
    right_sizes next n ok =
        by_length text
        (λ empty. absurd (no_format empty))
        (λ h.
        let rest = said_in (drop next text) in
        sym (first next n h ∙ ap (λ (x : Said). report_of two_widths trial (script_of two_widths (x ∷ rest))) is ∙ lines_reported two_widths z trial rest ok (lines_small two_widths z trial (lines_of (drop next text)))))
      where
        no_format : text ≡ [] → ⊥
        no_format empty =
            let m : Said.Format z ≡ Said.Malformed = sym is ∙ s ∙ ap (λ (l : List ℕ). line_means max_entries (take (end - 0) l)) empty ∙ ap (line_means max_entries) (take_none (end - 0)) ∙ line_none in
            let w : ◌≡◌ {A = ℕ} 0 1 = cc in
            omega arith

-- ---- what the others come to

pub refused_ran : (r : Option Tally) (o : Option (List Bool)) → r ≡ option_map (tallied none_yet) o → r ≡ None → found_text o ≡ bytes "answer=line\n"
unfolding found_text
refused_ran r None e k = refl
refused_ran r (Some cuts) e k = absurd (let u = sym k ∙ e in let w : ◌≡◌ {A = ℕ} 0 1 = cc in omega arith)

pub counted_ran : (r : Option Tally) (o : Option (List Bool)) (t : Tally) → r ≡ option_map (tallied none_yet) o → r ≡ Some t → found_text o ≡ counts_text (t.same + t.differ) t.same t.differ
unfolding found_text cuts_text tallied
counted_ran r None t e k = absurd (let u = sym k ∙ e in let w : ◌≡◌ {A = ℕ} 0 1 = cc in omega arith)
counted_ran r (Some cuts) t e k =
    let u : t ≡ tallied none_yet cuts = same_Some t (tallied none_yet cuts) (sym k ∙ e) in
    let a : t.same ≡ sames cuts = ap (λ (x : Tally). x.same) u ∙ omega arith in
    let b : t.differ ≡ differs cuts = ap (λ (x : Tally). x.differ) u ∙ omega arith in
    rw (a, b, same_or_not cuts)

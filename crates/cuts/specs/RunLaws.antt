-- Laws of a line's turn and of the lines that are still to come.
use Rattle.std.specs.Prelude.{ℕ, suc, ◌+◌, ◌-◌, ◌≤◌, ◌<◌, min, Bool, true, false, eqb, length, take, drop, replicate}
use native.Mathlib.Omega.{arith}
use Rattle.std.proofs.Math.Numerals.{add-one}
use Rattle.std.proofs.Math.Path.{◌≡◌, refl, sym, ap}
use Rattle.std.proofs.Common.{◌∙◌, subst, drop_of_length-le}
use Rattle.std.specs.Prelude.{Option, None, Some, option_map}
use Rattle.std.proofs.lemmas.Option.{same_Some}
use mathlib.Core.List.{List, [], ◌∷◌, ◌++◌}
use Rattle.std.proofs.Math.Bool.{cond}
use Rattle.std.proofs.Math.ListN.{length-take}
use Rattle.std.proofs.lemmas.List.{length-map}
use types.Run.{OneOf, miss}
use denote.Enum.Declared.{tag_of}
use borrow.Author.Tests.{lt-ltb, le-ltb}
use Rattle.bounded.specs.Limits.{two_widths}
use Rattle.bounded.specs.Choice.{on_test}
use Rattle.sizes.specs.declared.Sizes.{Sizes}
use Rattle.line.specs.declared.Line.{Line}
use Rattle.line.specs.declared.Line.TheVariants as lines
use Rattle.line.specs.Line.{Said, said, max_entries, line_means}
use Rattle.line.specs.contracts.Line.{the_type}
use Rattle.record.specs.Flash.{Flash}
use Rattle.rules.specs.Write.{write_outcome}
use Rattle.everywhere.specs.Cuts.{wiped_state, erase_outcome_by, sames, differs}
use Rattle.everywhere.proofs.Laws.{differs_append, sames_append, same_or_not}
use Rattle.cutpoint.specs.declared.Tally.{Tally}
use Rattle.cutpoint.specs.Judged.{tallied, erase_cuts}
use Rattle.ledger.specs.Ledger.{filled}
use Rattle.recorded.specs.Desk.{Desk, write_desk, desk_back, write_cuts, cuts_of_erase, desk_after, desk_cuts}
use Rattle.recorded.specs.StepLaws.{none_counted}
use Rattle.text.specs.Lines.{lines_of}
use Rattle.cuts.specs.Lines.{line_length, lines_next}
use Rattle.cuts.specs.Run.{is_step, run_from}
use Rattle.cuts.specs.Ran.{AtMost, said_in, turn_desk, turn_cuts}

-- a line of another key than format's and a malformed one's
pub other_step : (line : Line) (list : List ℕ) → OneOf (1 ∷ 2 ∷ 3 ∷ 4 ∷ 5 ∷ 6 ∷ 7 ∷ []) (tag_of the_type line) → true ≡ is_step (said line list)
unfolding is_step said
other_step (lines.Format sizes) list k = absurd (miss (1 ∷ 2 ∷ 3 ∷ 4 ∷ 5 ∷ 6 ∷ 7 ∷ []) 0 tt k)
other_step (lines.Launch count) list k = refl
other_step (lines.Write page slot fill) list k = refl
other_step (lines.Withdraw page) list k = refl
other_step (lines.Erase count) list k = refl
other_step lines.Recover list k = refl
other_step lines.Cut list k = refl
other_step lines.List list k = refl

-- the cuts of both lists counted, one behind the other
tallied_both : (t : Tally) (a b : List Bool) → tallied t (a ++ b) ≡ tallied (tallied t a) b
unfolding tallied
tallied_both t a b =
    let s : t.same + sames (a ++ b) ≡ t.same + sames a + sames b = let h = sames_append a b in omega arith in
    let d : t.differ + differs (a ++ b) ≡ t.differ + differs a + differs b = let h = differs_append a b in omega arith in
    rw (s, d)

-- of cuts that are tried or not
few_where : (t : Bool) (cuts : List Bool) → length cuts ≤ 64 → length (cond t cuts []) ≤ 64
few_where true cuts h = h
few_where false cuts h = omega arith

erase_count : (sizes : Sizes) (f : Flash) (state : List ℕ) (kept : ℕ → List ℕ) (slots : List ℕ) → length (erase_cuts two_widths sizes f state kept slots) ≡ length slots
unfolding erase_cuts
erase_count sizes f state kept slots = length-map slots _

module _ (sizes : Sizes) (trial : Bool) (d : Desk) where
  -- a line has at most as many cuts as its list has room for
  few_cuts : (line : Line) (list : List ℕ) → length list ≡ 64 → length (desk_cuts two_widths sizes trial d (said line list)) ≤ 64
  unfolding said desk_cuts write_cuts cuts_of_erase
  few_cuts (lines.Format own) list e = omega arith
  few_cuts (lines.Launch count) list e = omega arith
  few_cuts (lines.Write page slot fill) list e = few_where (eqb (write_outcome two_widths sizes d.volume page slot (replicate sizes.width fill)).answer 0) (desk_back two_widths sizes (write_desk two_widths sizes d page slot fill) ∷ []) (omega arith)
  few_cuts (lines.Withdraw page) list e = omega arith
  few_cuts (lines.Erase count) list e =
      few_where (eqb (erase_outcome_by trial two_widths sizes d.volume (take count list)).answer 0)
      (erase_cuts two_widths sizes d.volume.flash (wiped_state sizes) (filled sizes.width d.kept) (take count list))
      (let m = erase_count sizes d.volume.flash (wiped_state sizes) (filled sizes.width d.kept) (take count list) in let t = length-take count list in omega arith)
  few_cuts lines.Recover list e = omega arith
  few_cuts lines.Cut list e = omega arith
  few_cuts lines.List list e = omega arith

  -- what a turn gives and leaves: r is what it comes to, behind this tally
  abbrev Turned : Tally → Said → Desk → Option Tally → Type 0
  Turned tally means after r =
      (after ≡ turn_desk two_widths sizes trial d means)
      × ((r ≡ option_map (tallied tally) (turn_cuts two_widths sizes trial d means)) × AtMost (tally.same + tally.differ + 64) r)

  module _ (tally : Tally) (means : Said) where
    pub turn_refused : is_step means ≡ false → Turned tally means d None
    unfolding turn_desk turn_cuts AtMost
    turn_refused refuses = rw refuses (refl, (refl, tt))

    pub turn_done :
        (line : Line) (list : List ℕ) → said line list ≡ means → true ≡ is_step (said line list) → length list ≡ 64 → (after : Desk) (t : Tally) → after ≡ desk_after two_widths sizes trial d (said line list) → t ≡ tallied tally (desk_cuts two_widths sizes trial d (said line list))
        → Turned tally means after (Some t)
    unfolding turn_desk turn_cuts AtMost tallied
    turn_done line list says takes room after t a c =
        let few = few_cuts line list room in
        let all = same_or_not (desk_cuts two_widths sizes trial d (said line list)) in
        rw (← says, ← takes) (a, (ap Some c, rw c (omega arith)))

-- what is counted where at most n are
pub at_most : (n : ℕ) (r : Option Tally) (t : Tally) → AtMost n r → r ≡ Some t → t.same + t.differ ≤ n
unfolding AtMost
at_most n r t f k = subst (AtMost n) k f

-- ---- the lines from a place on

module _ (sizes : Sizes) (trial : Bool) (text : List ℕ) where
  -- what the lines from a place on come to, where n lines are before them and this tally is counted
  unfoldable pub from_here : Tally → Desk → (n at : ℕ) → Option Tally
  from_here t d n at = option_map (tallied t) (run_from two_widths sizes trial d n (said_in (drop at text)))

  module _ (t : Tally) (d : Desk) (n at : ℕ) where
    pub here_ends : length text ≤ at → from_here t d n at ≡ Some t
    unfolding from_here said_in lines_of run_from
    here_ends h = rw (drop_of_length-le text h) (ap Some (sym (none_counted t)))

    module _ (inside : at < length text) {end next : ℕ} (e : end ≡ at + line_length (drop at text)) (k : next ≡ min (end + 1) (length text)) where
      -- the line there
      abbrev here : Said
      here = line_means max_entries (take (end - at) (drop at text))

      here_first : said_in (drop at text) ≡ here ∷ said_in (drop next text)
      unfolding said_in
      here_first =
          let l = lines_next text at end next e k inside in
          let j : end - at ≡ line_length (drop at text) = omega arith in
          rw (l, j)

      pub here_many : 256 ≤ n → from_here t d n at ≡ None
      unfolding from_here run_from
      here_many h = rw (here_first, le-ltb n 256 h)

      module _ (few : n < 256) (r : Option Tally) (comes : r ≡ option_map (tallied t) (turn_cuts two_widths sizes trial d here)) where
        pub here_refused : r ≡ None → from_here t d n at ≡ None
        unfolding from_here run_from turn_cuts
        here_refused is =
            on_test (is_step here)
            (λ y. absurd (let c : ◌≡◌ {A = Option Tally} None (Some (tallied t (desk_cuts two_widths sizes trial d here))) = sym is ∙ comes ∙ ap (λ (b : Bool). option_map (tallied t) (cond b (Some (desk_cuts two_widths sizes trial d here)) None)) y in let w : ◌≡◌ {A = ℕ} 0 1 = cc in omega arith))
            (λ no. rw (here_first, lt-ltb n 256 few, no))

        pub here_counted : (u : Tally) → r ≡ Some u → (after : Desk) → after ≡ turn_desk two_widths sizes trial d here → from_here t d n at ≡ from_here u after (n + 1) next
        unfolding from_here run_from turn_cuts turn_desk
        here_counted u is after a =
            on_test (is_step here)
            (λ y.
            let c : Some u ≡ Some (tallied t (desk_cuts two_widths sizes trial d here)) = sym is ∙ comes ∙ ap (λ (b : Bool). option_map (tallied t) (cond b (Some (desk_cuts two_widths sizes trial d here)) None)) y in
            let q = same_Some u (tallied t (desk_cuts two_widths sizes trial d here)) c in
            let z : after ≡ desk_after two_widths sizes trial d here = a ∙ ap (λ (b : Bool). cond b (desk_after two_widths sizes trial d here) d) y in
            rw (here_first, lt-ltb n 256 few, y, q, z, add-one n) (joined (run_from two_widths sizes trial (desk_after two_widths sizes trial d here) (suc n) (said_in (drop next text)))))
            (λ no. absurd (let c : ◌≡◌ {A = Option Tally} (Some u) None = sym is ∙ comes ∙ ap (λ (b : Bool). option_map (tallied t) (cond b (Some (desk_cuts two_widths sizes trial d here)) None)) no in let w : ◌≡◌ {A = ℕ} 0 1 = cc in omega arith))
          where
            joined : (o : Option (List Bool)) → option_map (tallied t) (option_map (λ (cuts : List Bool). desk_cuts two_widths sizes trial d here ++ cuts) o) ≡ option_map (tallied (tallied t (desk_cuts two_widths sizes trial d here))) o
            joined None = refl
            joined (Some cuts) = ap Some (tallied_both t (desk_cuts two_widths sizes trial d here) cuts)

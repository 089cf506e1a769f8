-- A text that is no script prints answer=line, and one that is the numbers of its cuts.
use native.Mathlib.Omega.{arith}
use mathlib.Core.Path.{◌≡◌, refl, sym, ap, ◌∙◌}
use borrow.Enum.Refused.{opened}
use Rattle.bounded.specs.Choice.{told}
use Rattle.std.proofs.Common.{Option, true, false}
use Rattle.text.specs.Print.{added}
use Rattle.line.specs.declared.Line.{Line}
use Rattle.line.specs.Line.{Said, said, said_of, on_format}
use Rattle.dispatch.specs.DispatchLaws.{other_line}
use Rattle.cuts.specs.Lines.{end_within}
use Rattle.cuts.specs.ReportLaws.{not_format, wrong_sizes_lem, right_sizes, refused_ran, counted_ran}
use Rattle.cuts.specs.Ran.{most_cuts}
use Rattle.cuts.specs.RunLaws.{at_most}
use Rattle.cuts.proofs.report.Goals as goal

pub slice_bounds-line_of-end : goal.slice_bounds-line_of-end
slice_bounds-line_of-end c = (end_within c.args.text.now 0 _ _ c.line_end-end.ensures refl (omega arith)).1

pub returns-in_default : goal.returns-in_default
unfolding on_format
returns-in_default c = let a = c.args in
    let o = c.line_of in
    c.refuse.ensures
    ∙ ap (added a.out.now 0) (not_format a.trial a.text.now _ c.line_end-end.ensures _ o.ensures (ap (λ (r : Option Line). on_format (said_of r o.new.list) (λ z. true) false) c.in_default.is))

pub returns-in_default-line : goal.returns-in_default-line
returns-in_default-line c = let a = c.args in
    let o = c.line_of in
    let is = ap (λ (r : Option Line). on_format (said_of r o.new.list) (λ z. true) false) c.in-Some.is in
    c.refuse-in_default-line.ensures
    ∙ ap (added a.out.now 0) (not_format a.trial a.text.now _ c.line_end-end.ensures _ o.ensures (is ∙ other_line _ _ _ _ (opened c.in_default-line.in_default-line-own.keys2)))

pub returns-then-not-are_ok : goal.returns-then-not-are_ok
unfolding said
returns-then-not-are_ok c = let a = c.args in
    let o = c.line_of in
    let e = c.line_end-end.ensures in
    let is : said_of o.result o.new.list ≡ Said.Format c.in-Format.sizes = ap (λ (r : Option Line). said_of r o.new.list) c.in-Some.is ∙ ap (λ (l : Line). said l o.new.list) c.in-Format.is in
    c.refuse-then-not-are_ok.ensures
    ∙ ap (added a.out.now 0) (wrong_sizes_lem a.trial a.text.now _ e _ o.ensures c.in-Format.sizes is (told c.are_ok.ensures c.if-not-are_ok.true))

pub next_line-requires : goal.next_line-requires
next_line-requires c = (end_within c.args.text.now 0 _ _ c.line_end-end.ensures refl (omega arith)).1

pub counted-requires : goal.counted-requires
counted-requires c = let n = c.next_line.ensures in
    record { sizes_value = told c.are_ok.ensures c.if-not-are_ok.false; from_in_bounds = omega arith }

pub returns-in_default-counted : goal.returns-in_default-counted
unfolding said
returns-in_default-counted c = let a = c.args in
    let o = c.line_of in
    let e = c.line_end-end.ensures in
    let is : said_of o.result o.new.list ≡ Said.Format c.in-Format.sizes = ap (λ (r : Option Line). said_of r o.new.list) c.in-Some.is ∙ ap (λ (l : Line). said l o.new.list) c.in-Format.is in
    let r = right_sizes a.trial a.text.now _ e _ o.ensures c.in-Format.sizes is _ c.next_line.ensures (told c.are_ok.ensures c.if-not-are_ok.false) in
    c.refuse-in_default-counted.ensures
    ∙ ap (added a.out.now 0) (sym (refused_ran _ _ c.counted.ensures.finds c.in_default-counted.is) ∙ r)

pub put_counts-requires : goal.put_counts-requires
put_counts-requires c = omega (arith, at_most most_cuts _ _ c.counted.ensures.few c.in-Some-counted.is)

pub returns : goal.returns
unfolding said
returns c = let a = c.args in
    let o = c.line_of in
    let e = c.line_end-end.ensures in
    let is : said_of o.result o.new.list ≡ Said.Format c.in-Format.sizes = ap (λ (r : Option Line). said_of r o.new.list) c.in-Some.is ∙ ap (λ (l : Line). said l o.new.list) c.in-Format.is in
    let r = right_sizes a.trial a.text.now _ e _ o.ensures c.in-Format.sizes is _ c.next_line.ensures (told c.are_ok.ensures c.if-not-are_ok.false) in
    c.put_counts.ensures
    ∙ ap (added a.out.now 0) (sym (counted_ran _ _ _ c.counted.ensures.finds c.in-Some-counted.is) ∙ r)

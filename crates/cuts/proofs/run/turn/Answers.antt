-- A line that may not stand refuses the script; any other is carried out, and its cuts are counted.
use mathlib.Core.Path.{◌≡◌, refl, sym, ap, ◌∙◌, subst}
use mathlib.Core.Bool.{false}
use borrow.Enum.Refused.{opened}
use Rattle.line.specs.declared.Line.{Line}
use Rattle.line.specs.Line.{said, line_means, max_entries}
use Rattle.recorded.specs.Held.{desk_of}
use Rattle.recorded.specs.HeldLaws.{same_stays}
use Rattle.cuts.specs.Ran.{AtMost}
use Rattle.cuts.specs.Run.{is_step}
use Rattle.cuts.specs.RunLaws.{turn_refused, turn_done, other_step}
use Rattle.cuts.proofs.run.turn.Goals as goal

pub returns-in_err-says : goal.returns-in_err-says
unfolding is_step
returns-in_err-says c = let d = c.args.desk.now in
    let malformed : is_step (line_means max_entries c.args.line.now) ≡ false = sym (ap is_step c.in_err-says.ensures) in
    let w = turn_refused d.sizes d.trial (desk_of d) c.args.tally _ malformed in
    record { leaves = w.0; counts = c.from_residual.ensures ∙ w.1.0; few = subst (AtMost _) (sym c.from_residual.ensures) w.1.1; same_sizes = refl; same_trial = refl; same_buffers = same_stays d; bytes = λ held. held }

pub returns-in-Format : goal.returns-in-Format
unfolding is_step said
returns-in-Format c = let d = c.args.desk.now in
    let l = c.line_of in
    let again : is_step (line_means max_entries c.args.line.now) ≡ false = ap is_step (sym c.in_ok-says.ensures) ∙ ap (λ (x : Line). is_step (said x l.new.list)) c.in-Format.is in
    let w = turn_refused d.sizes d.trial (desk_of d) c.args.tally _ again in
    record { leaves = w.0; counts = w.1.0; few = w.1.1; same_sizes = refl; same_trial = refl; same_buffers = same_stays d; bytes = λ held. held }

pub step-requires : goal.step-requires
step-requires c = record { list_len = c.line_of.auto.list; differ_bound = c.requires }

pub returns : goal.returns
returns c = let d = c.args.desk.now in
    let l = c.line_of in
    let s = c.step.ensures in
    let w = turn_done d.sizes d.trial (desk_of d) c.args.tally _ _ l.new.list c.in_ok-says.ensures (other_step _ _ (opened c.in_default.in_default-own.keys2)) l.auto.list _ _ s.leaves s.counts in
    record { leaves = w.0; counts = w.1.0; few = w.1.1; same_sizes = s.same_sizes; same_trial = s.same_trial; same_buffers = s.same_buffers; bytes = s.bytes }

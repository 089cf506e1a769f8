use native.Mathlib.Omega.{arith}
use mathlib.Core.Path.{refl, sym, ap, ◌∙◌}
use mathlib.Core.Bool.{not}
use Rattle.bounded.specs.PartsLaws.{part_inside}
use Rattle.record.specs.Flash.{flash}
use Rattle.twins.proofs.TwinsLaws.{one_tells, none_clashes}
use Rattle.std.specs.Prelude.{is_some}
use Rattle.chain.proofs.ChainLaws.{end_some}
use Rattle.conflict.proofs.conflicts_below.Goals as goal

pub returns-in_default : goal.returns-in_default
returns-in_default c = let f = c.find_clash in
    sym (none_clashes c.args.width (flash c.args.words.now c.args.contents.now) c.args.k (f.ensures.tells ∙ end_some f.result ∙ ap is_some c.in_default.is))

pub are_twins-requires : goal.are_twins-requires
are_twins-requires c = let h = c.requires.k_in_bounds in
    let m = c.requires.width_in_bounds in
    let s = c.in-Some in
    let j = (s.ensures.passes s.other refl).0 in
    let i = part_inside c.args.width c.args.k s.other j in
    record { j_in_bounds = omega arith; k_in_bounds = h; width_in_bounds = omega arith; width_in_bounds_2 = m }

pub returns : goal.returns
returns c = let s = c.in-Some in
    let j = s.ensures.passes s.other refl in
    ap not c.are_twins.ensures
    ∙ one_tells c.args.width (flash c.args.words.now c.args.contents.now) c.args.k c.requires.contents_value s.other j.0 j.1

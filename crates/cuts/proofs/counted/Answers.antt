-- The buffers have room for the volume, and formatted they are what the run begins with.
use native.Mathlib.Omega.{arith}
use mathlib.Core.Path.{ap, ◌∙◌}
use Rattle.std.proofs.Common.{option_map}
use lib.ListN.{drop}
use Rattle.bounded.specs.Limits.{two_widths}
use Rattle.cutpoint.specs.Judged.{tallied}
use Rattle.cutpoint.specs.JudgedLaws.{front_ends}
use Rattle.recorded.specs.Desk.{Desk}
use Rattle.cuts.specs.Run.{run_from}
use Rattle.cuts.specs.Ran.{none_yet, said_in}
use Rattle.cuts.specs.Begun.{words_room, bytes_room, state_room, begins, begun_ready}
use Rattle.cuts.proofs.counted.Goals as goal

pub overflow_mul-b : goal.overflow_mul-b
overflow_mul-b c = omega (arith, bytes_room c.args.sizes c.requires.sizes_value)

pub slice_bounds-words-end : goal.slice_bounds-words-end
slice_bounds-words-end c = words_room c.args.sizes c.requires.sizes_value

pub slice_bounds-contents-end : goal.slice_bounds-contents-end
slice_bounds-contents-end c = bytes_room c.args.sizes c.requires.sizes_value

pub slice_bounds-state-end : goal.slice_bounds-state-end
slice_bounds-state-end c = state_room c.args.sizes c.requires.sizes_value

pub slice_bounds-words-end-2 : goal.slice_bounds-words-end-2
slice_bounds-words-end-2 c = let f = c.format in front_ends _ 5120 (words_room c.args.sizes c.requires.sizes_value) f.new.words f.auto.words

pub slice_bounds-contents-end-2 : goal.slice_bounds-contents-end-2
slice_bounds-contents-end-2 c = let f = c.format in front_ends _ 65536 (bytes_room c.args.sizes c.requires.sizes_value) f.new.contents f.auto.contents

pub slice_bounds-state-end-2 : goal.slice_bounds-state-end-2
slice_bounds-state-end-2 c = let f = c.format in front_ends _ 1024 (state_room c.args.sizes c.requires.sizes_value) f.new.state f.auto.state

pub invariant_of-desk : goal.invariant_of-desk
invariant_of-desk c = let f = c.format in
    let z = c.args.sizes in
    let ok = c.requires.sizes_value in
    record { ready = begun_ready z ok _ (begins z ok f.result _ _ _ f.ensures f.auto.words f.auto.contents f.auto.state) }

pub returns : goal.returns
returns c = let a = c.args in
    let f = c.format in
    let e = begins a.sizes c.requires.sizes_value f.result _ _ _ f.ensures f.auto.words f.auto.contents f.auto.state in
    record { finds = c.run.ensures.finds ∙ ap (λ (d : Desk). option_map (tallied none_yet) (run_from two_widths a.sizes a.trial d 1 (said_in (drop a.from a.text.now)))) e; few = c.run.ensures.few }

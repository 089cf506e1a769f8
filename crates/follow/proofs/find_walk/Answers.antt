use Rattle.std.proofs.Common.{arith, ◌≡◌, refl, ap, ◌∙◌}
use Rattle.follow.specs.declared.Verdict.TheVariants as says
use Rattle.follow.proofs.WalksLaws.{at_start, links_most, one_link_on, found_committed, found_uncommitted, found_ring, found_known_committed, found_known_uncommitted, found_astray, committed_known, uncommitted_known}
use Rattle.follow.proofs.find_walk.Goals as goal

pub loop-before-init : goal.loop-before-init
loop-before-init c = at_start c.requires.start_lt_pages

pub returns-in-Committed : goal.returns-in-Committed
returns-in-Committed c = found_committed c.loop-before.invariant c.in-Committed.is

pub returns-in-Uncommitted : goal.returns-in-Uncommitted
returns-in-Uncommitted c = found_uncommitted c.loop-before.invariant c.in-Uncommitted.is

pub returns-then-next-start : goal.returns-then-next-start
returns-then-next-start c = found_ring c.loop-before.invariant c.requires.start_lt_pages c.requires.stays_inside (c.in-On.is ∙ ap says.On c.if-next-start.true)

-- the links of a page whose end is known are P at the most
pub overflow_add-result : goal.overflow_add-result
overflow_add-result c = let r = c.requires in
    let inside = r.stays_inside c.loop-before.page c.in-On.next c.loop-before.invariant.inside c.in-On.is in
    let m = links_most _ _ r.stays_inside _ inside (committed_known r.known inside c.in-Committed-known.is) in
    omega arith

pub overflow_add-result-in-Uncommitted-known : goal.overflow_add-result-in-Uncommitted-known
overflow_add-result-in-Uncommitted-known c = let r = c.requires in
    let inside = r.stays_inside c.loop-before.page c.in-On.next c.loop-before.invariant.inside c.in-On.is in
    let m = links_most _ _ r.stays_inside _ inside (uncommitted_known r.known inside c.in-Uncommitted-known.is) in
    omega arith

pub returns-in-Committed-known : goal.returns-in-Committed-known
returns-in-Committed-known c = let r = c.requires in
    let inside = r.stays_inside c.loop-before.page c.in-On.next c.loop-before.invariant.inside c.in-On.is in
    found_known_committed c.loop-before.invariant c.in-On.is c.if-next-start.false (committed_known r.known inside c.in-Committed-known.is)

pub returns-in-Uncommitted-known : goal.returns-in-Uncommitted-known
returns-in-Uncommitted-known c = let r = c.requires in
    let inside = r.stays_inside c.loop-before.page c.in-On.next c.loop-before.invariant.inside c.in-On.is in
    found_known_uncommitted c.loop-before.invariant c.in-On.is c.if-next-start.false (uncommitted_known r.known inside c.in-Uncommitted-known.is)

-- past a page in a known ring, and past one with nothing yet
pub loop-before-preserved : goal.loop-before-preserved
loop-before-preserved c = one_link_on c.loop-before.invariant c.in-On.is c.if-next-start.false c.requires.stays_inside

pub returns : goal.returns
returns c = let l = c.loop-before in
    let e : l.before ≡ c.args.pages = omega arith in
    (refl, found_astray (rw e at l.invariant))

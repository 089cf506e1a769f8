use Rattle.std.proofs.Common.{arith}
use Rattle.follow.proofs.WalksLaws.{some_links, tells_on, walk_stored, given_then}
use Rattle.follow.proofs.give_walks.Goals as goal

pub loop-init : goal.loop-init
loop-init c = let r = c.requires in
    (r.start_lt_pages, r.tells, walk_stored r.known (omega arith) r.tells)

pub on-own-requires : goal.on-own-requires
on-own-requires c = some_links c.loop.invariant.1

pub loop-preserved : goal.loop-preserved
loop-preserved c = let i = c.loop.invariant in
    let inside = c.requires.stays_inside c.loop.page c.in-On.next i.0 c.in-On.is in
    let t = tells_on c.in-On.is i.1 in
    rw c.on-own.ensures (inside, t, given_then i.2 (walk_stored i.2.known (let m = c.requires.pages_bound in omega arith) t))

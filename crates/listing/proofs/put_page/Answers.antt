use Rattle.rules.specs.Read.{read_slot_in}
use Rattle.listing.specs.Listing.{page_text}
use Rattle.listing.specs.ListingLaws.{readable}
use Rattle.listing.proofs.put_page.Goals as goal

pub page_at-s-requires : goal.page_at-s-requires
page_at-s-requires c = (readable _ _ _ _ c.requires).state_there

pub committed_slot-requires : goal.committed_slot-requires
committed_slot-requires c = let r = readable _ _ _ _ c.requires in record { slots_in_bounds = r.table_there; page_in_bounds = r.state_there }

-- the read is accepted
pub returns-in_default : goal.returns-in_default
unfolding read_slot_in
returns-in_default c = absurd (c.in_default.ensures (readable _ _ _ _ c.requires).slot_there)

pub drawn_in-drawn-requires : goal.drawn_in-drawn-requires
unfolding read_slot_in
drawn_in-drawn-requires c = rw c.in-Some.ensures.1 (readable _ _ _ _ c.requires).bytes_there

pub returns : goal.returns
unfolding page_text read_slot_in
returns c = let s = c.page_at-s in
    let r = readable _ _ _ _ c.requires in
    rw (c.is_set.ensures, c.drawn_in-drawn.ensures, s.ensures, c.in-Some.ensures.1, r.drawn_there) at c.put_fields.ensures

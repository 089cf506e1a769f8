-- What recovery answers by the links, in the form in which the code computes it for either layout of records.
use Rattle.std.specs.Prelude.{ℕ, ◌≡◌, not}
use Rattle.bounded.specs.Below.{all_below, some_below}
use Rattle.outcome.specs.Outcome.{◌⇒◌otherwise◌}
use Rattle.outcome.specs.Chain.{first_of, split_front}
use Rattle.sizes.specs.declared.Layout.{Layout}
use Rattle.record.specs.Slot.{Slot}
use Rattle.table.specs.Table.{has_version}
use Rattle.follow.specs.Follow.{is_astray}
use Rattle.links.specs.Committed.{walk_in, committed_in}

-- the answer by the links, where each page has a record
unfoldable pub links_answer : Layout → (P S : ℕ) → (ℕ → Slot) → ℕ
links_answer layout P S t =
    some_below P (λ p. is_astray (walk_in layout P S t p).end) ⇒ 4 otherwise
    not (all_below P (λ p. has_version S t p (committed_in layout P S t p))) ⇒ 14 otherwise
    0

-- in two parts: the walks, and then the versions
pub links_chain :
    (layout : Layout) (P S : ℕ) (t : ℕ → Slot)
    → links_answer layout P S t
    ≡ first_of (some_below P (λ p. is_astray (walk_in layout P S t p).end) ⇒ 4 otherwise 0)
    (not (all_below P (λ p. has_version S t p (committed_in layout P S t p))) ⇒ 14 otherwise 0)
unfolding links_answer first_of
links_chain layout P S t =
    split_front (some_below P (λ p. is_astray (walk_in layout P S t p).end)) 3 0
    (not (all_below P (λ p. has_version S t p (committed_in layout P S t p))) ⇒ 14 otherwise 0)

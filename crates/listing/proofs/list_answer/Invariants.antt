-- The invariant: no page before `page` is refused.
use Prim.Native.Nat.{ℕ}
use mathlib.Core.Path.{◌≡◌}
use Rattle.bounded.specs.Limits.{two_widths}
use Rattle.rules.specs.Volume.{volume}
use Rattle.listing.specs.Listing.{page_read, first_refusal}
use Rattle.listing.proofs.list_answer.Given as goal

abbrev pub invariant-loop-page : goal.invariant-loop-page
invariant-loop-page l = first_refusal l.page (λ (p : ℕ). (page_read two_widths l.sizes (volume l.words l.contents l.state) p).answer) ≡ 0

use mathlib.Core.Path.{ap, ◌∙◌}
use mathlib.Core.List.{List}
use Prim.Native.Nat.{ℕ}
use Rattle.bounded.specs.Limits.{two_widths}
use Rattle.outcome.specs.Outcome.{Outcome}
use Rattle.bits.specs.Bits.{count_outcome}
use Rattle.listing.specs.ListingLaws.{second_or}
use Rattle.listing.proofs.drawn_in.Goals as goal

pub returns : goal.returns
returns c = c.unwrap_or.ensures
    ∙ second_or c.count.result
    ∙ ap (λ (o : Outcome (Unit {0})). o.second) c.count.ensures
    ∙ ap (λ (l : List ℕ). (count_outcome two_widths l).second) c.bytes_of.ensures.these

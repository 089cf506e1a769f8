-- The call format.
use Rattle.std.specs.Prelude.{ℕ, List, cond, not, ltb, replicate}
use Rattle.bounded.specs.Limits.{Widths}
use Rattle.bounded.specs.Parts.{join_parts}
use Rattle.outcome.specs.Outcome.{◌⇒◌otherwise◌, Outcome, settled}
use Rattle.sizes.specs.declared.Layout.{Layout}
use Rattle.sizes.specs.declared.Layout.TheVariants.{FiveWords}
use Rattle.sizes.specs.declared.Sizes.{Sizes}
use Rattle.record.specs.Slot.{formatted_record}
use Rattle.state.specs.State.{state_words}
use Rattle.state.specs.Change.{fresh_state}
use Rattle.table.specs.Given.{one_each}
use Rattle.rules.specs.Volume.{Volume, volume_fits_in}

-- "slot i below P holds (i, 0, 0, i, 0) …; all other slots are blank"
unfoldable pub formatted_words : Layout → Sizes → List ℕ
formatted_words layout sizes = one_each layout sizes.pages sizes.slots formatted_record

-- "… with 32 zero bytes; all other slots are … with bytes 255", as many as the width says
unfoldable pub formatted_contents : Sizes → List ℕ
formatted_contents sizes = join_parts sizes.slots (λ k. replicate sizes.width (cond (ltb k sizes.pages) 0 255))

-- "the sheet says 0, 0, not in flight, 0 for each page"
unfoldable pub formatted_in : Layout → Sizes → Volume
formatted_in layout sizes = record { flash = record { words = formatted_words layout sizes; contents = formatted_contents sizes }; state = state_words sizes.pages fresh_state }

unfoldable pub format_answer_in : Layout → Widths → Sizes → Volume → ℕ
format_answer_in layout widths sizes v = not (volume_fits_in layout widths sizes v) ⇒ 1 otherwise 0

unfoldable pub format_outcome_in : Layout → Widths → Sizes → Volume → Outcome Volume
format_outcome_in layout widths sizes v = settled (format_answer_in layout widths sizes v) 0 0 v (formatted_in layout sizes)

-- the same of five words
abbrev pub formatted : Sizes → Volume
formatted sizes = formatted_in FiveWords sizes

abbrev pub format_answer : Widths → Sizes → Volume → ℕ
format_answer widths sizes v = format_answer_in FiveWords widths sizes v

abbrev pub format_outcome : Widths → Sizes → Volume → Outcome Volume
format_outcome widths sizes v = format_outcome_in FiveWords widths sizes v

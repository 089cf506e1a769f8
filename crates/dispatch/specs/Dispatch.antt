-- What a line's call gives and leaves of a volume.
use Rattle.std.specs.Prelude.{ℕ, List, length, replicate}
use Rattle.bounded.specs.Limits.{Widths}
use Rattle.outcome.specs.Outcome.{Outcome}
use Rattle.sizes.specs.declared.Sizes.{Sizes}
use Rattle.line.specs.Line.{Said}
use Rattle.rules.specs.Volume.{Volume}
use Rattle.rules.specs.Format.{format_outcome}
use Rattle.atomicity.specs.Family.{back_pointer}
use Rattle.atomicity.specs.Call.{Call, perform}

-- "cut sets every sheet word to 4,294,967,295"
unfoldable pub lost : List ℕ → List ℕ
lost state = replicate (length state) 4294967295

-- an outcome with the answer 0 that leaves this volume
unfoldable pub accepted : Volume → Outcome Volume
accepted v = record { answer = 0; second = 0; left = v }

-- What a line's call gives and leaves of a volume of these sizes, which are a format line's own (`sizes_for` of crate script). "fill is the value of all 32 bytes", or of as many as the width says; "cut sets every
-- sheet word to 4,294,967,295".
unfoldable pub line_outcome : Widths → Sizes → Volume → Said → Outcome Volume
line_outcome widths sizes v (Said.Format own) = format_outcome widths sizes v
line_outcome widths sizes v (Said.Launch pages) = perform back_pointer widths sizes v (Call.Launch pages)
line_outcome widths sizes v (Said.Write page slot fill) = perform back_pointer widths sizes v (Call.Write page slot (replicate sizes.width fill))
line_outcome widths sizes v (Said.Withdraw page) = perform back_pointer widths sizes v (Call.Withdraw page)
line_outcome widths sizes v (Said.Erase slots) = perform back_pointer widths sizes v (Call.Erase slots)
line_outcome widths sizes v Said.Recover = perform back_pointer widths sizes v Call.Recover
line_outcome widths sizes v Said.Cut = accepted (record { flash = v.flash; state = lost v.state })
line_outcome widths sizes v Said.Listing = accepted v
line_outcome widths sizes v Said.Malformed = accepted v

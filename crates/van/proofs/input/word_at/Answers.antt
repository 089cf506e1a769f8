use mathlib.Core.Path.{◌∙◌}
use Rattle.van.specs.Reading.{word_from}
use Rattle.van.proofs.input.word_at.Goals as goal

pub returns : goal.returns
returns c = let a = c.args in c.from_le_bytes.ensures ∙ word_from a.bytes.now a.i

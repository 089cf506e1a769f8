use Rattle.fleet.specs.Input.{sizes_at}
use Rattle.van.proofs.input.sizes_at.Goals as goal

pub returns : goal.returns
unfolding sizes_at
returns c = rw (c.word_at-3.ensures, c.word_at-2.ensures, c.word_at.ensures)

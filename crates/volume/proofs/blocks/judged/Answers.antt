-- The lengths and the table of blocks; then the refusals that all calls on a volume share, and the block's.
use mathlib.Core.Path.{refl}
use Rattle.bounded.specs.Choice.{told}
use Rattle.outcome.specs.Result.{given_back, number_positive}
use Rattle.rules.proofs.laws.Chains.{volume_spans, block_refuses, block_passes}
use Rattle.volume.proofs.blocks.judged.Goals as goal

pub judged-requires : goal.judged-requires
judged-requires c = λ _. volume_spans _ _ _ _ (rw c.new-volume.ensures at (told c.fits.ensures c.if-not-fits.false))

pub returns-in_err-judged : goal.returns-in_err-judged
returns-in_err-judged c =
    rw (given_back c.from_residual.result c.from_residual.ensures.1) (block_refuses _ _ _ _ (rw c.new-volume.ensures at (told c.fits.ensures c.if-not-fits.false))
    (told c.starts_ok.ensures c.if-not-starts_ok.false) c.in_err-judged.ensures (number_positive _))

pub returns-then-not-block_ok : goal.returns-then-not-block_ok
returns-then-not-block_ok c = block_passes _ _ _ _ (rw c.new-volume.ensures at (told c.fits.ensures c.if-not-fits.false))
    (told c.starts_ok.ensures c.if-not-starts_ok.false) c.in_ok-judged.ensures refl (rw (told c.block_ok.ensures c.if-not-block_ok.true))

pub returns : goal.returns
returns c = block_passes _ _ _ _ (rw c.new-volume.ensures at (told c.fits.ensures c.if-not-fits.false))
    (told c.starts_ok.ensures c.if-not-starts_ok.false) c.in_ok-judged.ensures refl (rw (told c.block_ok.ensures c.if-not-block_ok.false))

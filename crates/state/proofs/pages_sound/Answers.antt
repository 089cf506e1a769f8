use native.Mathlib.Omega.{arith}
use mathlib.Core.Path.{sym}
use Rattle.bounded.specs.BelowLaws.{all_zero, all_more, all_fails}
use Rattle.bounded.specs.Choice.{told}
use Rattle.state.proofs.pages_sound.Goals as goal

pub loop-page-init : goal.loop-page-init
loop-page-init c = all_zero _

pub returns-then-not-page_sound : goal.returns-then-not-page_sound
returns-then-not-page_sound c = sym (all_fails _ _ c.loop-page.page (omega arith) (told c.page_sound.ensures c.if-not-page_sound.true))

pub loop-page-preserved : goal.loop-page-preserved
loop-page-preserved c = all_more _ _ c.loop-page.invariant (told c.page_sound.ensures c.if-not-page_sound.false)

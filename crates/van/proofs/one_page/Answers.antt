-- `van::one_page` meets its contract: the theorems are cited. Assumes nothing.
use Rattle.fleet.proofs.FiguresLaws.{figures_shown, entries_shown}
use Rattle.fleet.proofs.InputLaws.{reading_shown, enough_read}
use Rattle.fleet.proofs.PageLaws.{pages_shown, room_enough}
use Rattle.fleet.proofs.Cases.{pages_computed}
use Rattle.van.proofs.one_page.Goals as goal

pub returns : goal.returns
returns c = record { figures = figures_shown; entries = entries_shown; reading = reading_shown; pages = pages_shown; enough = enough_read; room = room_enough; computed = pages_computed }

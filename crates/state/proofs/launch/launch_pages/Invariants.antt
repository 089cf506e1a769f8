-- `state::launch::launch_pages` meets its contract. The loop's invariant: the listed pages below the counter are launched.
use Rattle.state.specs.Walk.{pages_in, Launching}
use Rattle.state.proofs.launch.launch_pages.Given as goal

abbrev pub invariant-loop-i : goal.invariant-loop-i
invariant-loop-i l = Launching (pages_in l.initial.state) l.initial.state l.pages l.state l.i

-- The places so far are taken.
use Rattle.overlay_walk.specs.Places.{ArePassed}
use Rattle.overlay_walk.proofs.leftmost.first_open.Given as goal

abbrev pub invariant-loop-i : goal.invariant-loop-i
invariant-loop-i l = ArePassed l.taken l.places l.i

-- All places so far are put.
use Rattle.overlay_walk.specs.Places.{HasBelow}
use Rattle.overlay_walk.proofs.leftmost.put_by_edges.Given as goal

abbrev pub invariant-loop-place : goal.invariant-loop-place
invariant-loop-place g l = HasBelow l.place l.places.items

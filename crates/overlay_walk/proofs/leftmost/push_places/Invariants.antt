-- All places so far are added.
use Rattle.overlay_walk.specs.Places.{HasPlaces}
use Rattle.overlay_walk.proofs.leftmost.push_places.Given as goal

abbrev pub invariant-loop-place : goal.invariant-loop-place
invariant-loop-place g l = HasPlaces l.place l.places.items

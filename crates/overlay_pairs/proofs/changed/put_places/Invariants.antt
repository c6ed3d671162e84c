-- The numbers so far have been put.
use Rattle.overlay_pairs.proofs.PutPlaces.{ArePutUpTo}
use Rattle.overlay_pairs.proofs.changed.put_places.Given as goal

abbrev pub invariant-loop-n : goal.invariant-loop-n
invariant-loop-n g l = ArePutUpTo l.places l.initial.near.items l.near.items l.n

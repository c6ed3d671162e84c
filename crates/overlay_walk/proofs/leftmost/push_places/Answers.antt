-- The next place is added.
use Rattle.std.proofs.Common.{◌+◌, sym, subst}
use Rattle.overlay_walk.specs.Places.{HasPlaces}
use Rattle.overlay_walk.proofs.StartPlaces.{place_pushed}
use Rattle.overlay_walk.proofs.leftmost.push_places.Goals as goal

pub loop-place-preserved : goal.loop-place-preserved
loop-place-preserved g c = subst (HasPlaces (c.loop-place.place + 1)) (sym c.in_ok-push.ensures.items)
    (place_pushed c.loop-place.place c.loop-place.places.items c.loop-place.invariant)

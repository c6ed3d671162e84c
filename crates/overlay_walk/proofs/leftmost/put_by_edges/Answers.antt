-- The next place is put where none stands.
use Rattle.std.proofs.Common.{◌≡◌, ◌+◌, ◌<◌, ◌≤◌, length, get_or, subst, rules}
use Rattle.std.specs.Prelude.{set}
use Rattle.overlay_walk.specs.Places.{HasBelow}
use Rattle.overlay_walk.proofs.StartPlaces.{place_put}
use Rattle.overlay_walk.proofs.leftmost.put_by_edges.Goals as goal

pub loop-place-preserved : goal.loop-place-preserved
loop-place-preserved g c =
    let l = c.loop-place in
    let at = c.index-steps-place.result.edge in
    let held = c.index-held.result.now in
    let within : at < length l.places.items = search rules in
    let is : held ≡ get_or l.places.items at held = search rules in
    let free : l.place ≤ held = search rules in
    subst (λ (s : _). HasBelow (l.place + 1) (set l.places.items s.edge l.place)) c.index-steps-place.is
    (place_put l.places.items l.place at held l.invariant within is free)

-- The place is one that was looked at, and no step so far leaves a smaller point.
use Rattle.std.proofs.Common.{◌≡◌, ◌<◌, ◌≤◌, false, length, take, All}
use Rattle.overlay_geom.specs.Plane.{point_lt}
use Rattle.overlay_walk.specs.Places.{step_at}
use Rattle.overlay_walk.specs.Steps.{plain_steps}
use Rattle.overlay_extract.proofs.slicing.tours.least_place.Given as goal

abbrev pub invariant-loop-place : goal.invariant-loop-place
invariant-loop-place g l =
    let orbit = plain_steps g.I.IntNumber.whole l.orbit in
    (l.least ≤ l.place) × (0 < length l.orbit → l.least < length l.orbit)
    × All (λ s. point_lt s.from (step_at orbit l.least).from ≡ false)
    (plain_steps g.I.IntNumber.whole (take l.place l.orbit))

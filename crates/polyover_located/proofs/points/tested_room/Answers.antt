-- The coordinates are points, and there is a place for each or not.
use Rattle.std.proofs.Common.{rules}
use Rattle.polyover_located.proofs.Asking.{has_room, no_room}
use Rattle.polyover_located.proofs.points.tested_room.Goals as goal

pub returns-then-locations-points : goal.returns-then-locations-points
returns-then-locations-points g c =
    no_room g.I.IntNumber.whole g.I.IntNumber.limit c.args.points.now c.args.locations.now (search rules)
    (c.are_within.ensures.0 (search rules)) (search rules)

pub returns : goal.returns
returns g c = (
  record { even = search rules; within = c.are_within.ensures.0 (search rules) },
  has_room g.I.IntNumber.whole g.I.IntNumber.limit c.args.points.now c.args.locations.now (search rules),
)

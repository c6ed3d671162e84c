-- The contours so far are those of the walks so far.
use Rattle.std.proofs.Common.{take}
use Rattle.overlay_walk.specs.Walks.{plain_walks}
use Rattle.overlay_extract.proofs.ContoursAdded.{Show}
use Rattle.overlay_extract.proofs.extract.add_contours.Given as goal

abbrev pub invariant-loop-walk : goal.invariant-loop-walk
invariant-loop-walk g l =
    Show g.I.IntNumber.whole l.keeps_points (plain_walks g.I.IntNumber.whole (take l.walk-index l.walks))
    l.output.points.items l.output.ranges.items

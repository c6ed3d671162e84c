-- The points so far are located.
use Rattle.std.proofs.Common.{take}
use Rattle.overlay_geom.specs.Paths.{paths_of_shape}
use Rattle.overlay_geom.specs.Points.{plain_points}
use Rattle.overlay_geom.specs.Resolved.{plain_edges}
use Rattle.overlay_relate.specs.Answers.{AnswersWhere}
use Rattle.overlay_relate.specs.Locations.{IsLocatedIn}
use Rattle.overlay_located.specs.Once.{AreToldOnce}
use Rattle.overlay_located.proofs.contours.locate_each.Given as goal

abbrev pub invariant-loop-at : goal.invariant-loop-at
invariant-loop-at g l =
    let whole = g.I.IntNumber.whole in
    AreToldOnce whole (plain_edges whole l.edges) l.told.all.items l.told.uprights.items
    × AnswersWhere (IsLocatedIn (paths_of_shape whole l.contours)) (plain_points whole (take l.at l.points))
    l.located.items

-- It is told where the points lie in the contours so far.
use Rattle.std.proofs.Common.{take}
use Rattle.overlay_geom.specs.Paths.{paths_of_shape}
use Rattle.overlay_geom.specs.Points.{plain_points}
use Rattle.overlay_relate.specs.Answers.{AnswersWhere}
use Rattle.overlay_relate.specs.Locations.{IsLocatedIn}
use Rattle.overlay_relate.proofs.in_shapes.located_in_shape.Given as goal

abbrev pub invariant-loop-contour : goal.invariant-loop-contour
invariant-loop-contour g l =
    let whole = g.I.IntNumber.whole in
    AnswersWhere (IsLocatedIn (paths_of_shape whole (take l.contour-index l.contours))) (plain_points whole l.points)
    l.located.items

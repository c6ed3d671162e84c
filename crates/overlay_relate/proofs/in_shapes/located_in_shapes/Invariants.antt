-- It is told where the points lie among the shapes so far.
use Rattle.std.proofs.Common.{take}
use Rattle.overlay_geom.specs.Paths.{plain_shapes}
use Rattle.overlay_geom.specs.Points.{plain_points}
use Rattle.overlay_relate.specs.Answers.{AnswersWhere}
use Rattle.overlay_relate.specs.Locations.{IsLocatedAmong}
use Rattle.overlay_relate.proofs.in_shapes.located_in_shapes.Given as goal

abbrev pub invariant-loop-shape : goal.invariant-loop-shape
invariant-loop-shape g l =
    let whole = g.I.IntNumber.whole in
    AnswersWhere (IsLocatedAmong (plain_shapes whole (take l.shape-index l.shapes))) (plain_points whole l.points)
    l.located.items

-- A number below the count is that of a counted contour.
use Rattle.std.proofs.Common.{◌-◌, ◌^◌}
use Rattle.overlay_geom.specs.Paths.{paths_of_shapes}
use Rattle.overlay_geom.specs.Points.{plain_points}
use Rattle.overlay_geom.proofs.JoinedLists.{within_cut, slice_get-cut}
use Rattle.overlay_geom.proofs.resource.borrowed.BorrowedShapesIntShapeResource.path_at.Goals as goal

pub contour_at-requires-clause-within : goal.contour_at-requires-clause-within
contour_at-requires-clause-within g c =
    within_cut (2 ^ 64 - 1) (paths_of_shapes g.I.IntNumber.whole c.args.self.now.shapes.now) c.args.index
    c.requires.within

pub returns-clause-path : goal.returns-clause-path
returns-clause-path g c =
    slice_get-cut (2 ^ 64 - 1) (paths_of_shapes g.I.IntNumber.whole c.args.self.now.shapes.now) c.args.index
    (plain_points g.I.IntNumber.whole c.contour_at.result.now) c.requires.within c.contour_at.ensures.contour

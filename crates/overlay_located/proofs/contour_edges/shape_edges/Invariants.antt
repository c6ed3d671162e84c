-- The edges of the contours so far.
use Rattle.std.proofs.Common.{◌≡◌, take, All}
use Rattle.overlay_geom.specs.Paths.{paths_of_shape}
use Rattle.overlay_geom.specs.Resolved.{plain_edges, IsLongEdge}
use Rattle.overlay_relate.specs.Locations.{shape_edges}
use Rattle.overlay_located.proofs.contour_edges.shape_edges.Given as goal

abbrev pub invariant-loop-contour : goal.invariant-loop-contour
invariant-loop-contour g l =
    let whole = g.I.IntNumber.whole in
    (plain_edges whole l.edges.items ≡ shape_edges (paths_of_shape whole (take l.contour-index l.contours)))
    × All (IsLongEdge g.I.IntNumber.limit) (plain_edges whole l.edges.items)

-- The edges so far and those of the steps to come make the whole.
use Rattle.std.proofs.Common.{◌≡◌, ◌++◌, [], ◌∷◌, All, drop}
use Rattle.overlay_geom.specs.Points.{plain_point, plain_points, InRange}
use Rattle.overlay_geom.specs.Resolved.{plain_edges, edges_through, IsLongEdge}
use Rattle.overlay_located.proofs.contour_edges.push_round.Given as goal

abbrev pub invariant-loop-to : goal.invariant-loop-to
invariant-loop-to g l =
    let whole = g.I.IntNumber.whole in
    let first = plain_point whole l.first in
    InRange g.I.IntNumber.limit (plain_point whole l.from)
    × All (IsLongEdge g.I.IntNumber.limit) (plain_edges whole l.edges.items)
    × (plain_edges whole l.edges.items
    ++ edges_through (plain_point whole l.from) (plain_points whole (drop l.to-index l.contour) ++ first ∷ [])
    ≡ plain_edges whole l.initial.edges.items ++ edges_through first (plain_points whole l.contour ++ first ∷ []))

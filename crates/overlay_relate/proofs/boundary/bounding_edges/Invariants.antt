-- The edges so far and those that bound among the edges to come make the whole.
use Rattle.std.proofs.Common.{◌≡◌, ◌++◌, map, drop}
use Rattle.std.specs.List.{flat_map}
use Rattle.overlay_geom.specs.Resolved.{plain_edges}
use Rattle.overlay_order.specs.Vectors.{plain_vector}
use Rattle.overlay_relate.specs.Boundaries.{bounding}
use Rattle.overlay_relate.proofs.boundary.bounding_edges.Given as goal

abbrev pub invariant-loop-number : goal.invariant-loop-number
invariant-loop-number g l =
    plain_edges g.I.IntNumber.whole l.boundary.items ++ flat_map bounding
    (map (plain_vector g.I.IntNumber.whole) (drop l.number l.edges))
    ≡ flat_map bounding (map (plain_vector g.I.IntNumber.whole) l.edges)

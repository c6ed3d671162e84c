-- The edges that bound a shape, by the fill bits of the edges of a graph.
use Rattle.std.specs.Prelude.{cond, List, [], ◌∷◌}
use Rattle.overlay_geom.specs.Plane.{Edge}
use Rattle.overlay_order.specs.Counts.{has_bit}
use Rattle.overlay_order.specs.Vectors.{Vector}
use Rattle.overlay_relate.specs.Locations.{differ}

-- the edge, if the subject fills exactly one side of it, as its bits say
abbrev pub bounding : Vector → List Edge
bounding v = cond (differ (has_bit v.fill 0) (has_bit v.fill 1)) (record { a = v.a; b = v.b } ∷ []) []

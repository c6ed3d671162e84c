-- The first points are told of in the first places, and what is told of others is so.
use Rattle.std.proofs.Common.{map}
use Rattle.std.specs.List.{All}
use Rattle.overlay_located.specs.Queries.{plain_query, IsTold}
use Rattle.overlay_order.specs.Content.{plain_edges}
use Rattle.overlay_order.specs.Counts.{boolean_counts}
use Rattle.polyover_calls.specs.Arrays.{points_of}
use Rattle.polyover_located.proofs.ToldPoints.{AreToldUpTo}
use Rattle.polyover_located.specs.Held.{parts_of, shape_of}
use Rattle.polyover_located.proofs.points.write_locations.Given as goal

abbrev pub invariant-loop-at : goal.invariant-loop-at
invariant-loop-at g l =
    let whole = g.I.IntNumber.whole in
    AreToldUpTo whole (shape_of (parts_of whole g.E.EdgeForm.meant g.B.FormOf.meant l.shape)) (points_of l.points)
    l.initial.locations l.at l.locations
    × All (λ q. IsTold (plain_edges whole boolean_counts (map g.E.EdgeForm.meant l.shape.edges.now))
    (plain_query whole boolean_counts q)) l.told.items

-- The edges so far are copied.
use Rattle.std.proofs.Common.{◌≡◌, take}
use Rattle.overlay_order.specs.Content.{plain_edges}
use Rattle.overlay_order.specs.Counts.{boolean_counts}
use Rattle.overlay_plane.specs.Carried.{edges_in}
use Rattle.overlay_predicates.proofs.merged.content_of.Given as goal

abbrev pub invariant-loop-edge : goal.invariant-loop-edge
invariant-loop-edge g l =
    edges_in l.copy ≡ plain_edges g.I.IntNumber.whole boolean_counts (take l.edge-index l.edges)

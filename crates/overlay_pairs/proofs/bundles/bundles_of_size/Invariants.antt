-- The bundles so far hold the edges of the boxes so far.
use Rattle.std.proofs.Common.{All}
use Rattle.overlay_order.specs.Content.{plain_edges}
use Rattle.overlay_pairs.specs.Bundles.{plain_bundles, HoldsEdge, IsHeldBundle}
use Rattle.overlay_pairs.specs.Extents.{plain_extents}
use Rattle.overlay_pairs.proofs.BundleLists.{AreBundlesUpTo}
use Rattle.overlay_pairs.proofs.bundles.bundles_of_size.Given as goal

abbrev pub invariant-loop-k : goal.invariant-loop-k
invariant-loop-k g l =
    let whole = g.I.IntNumber.whole in
    AreBundlesUpTo HoldsEdge l.size (plain_edges whole g.C.EdgeCount.counts l.edges) (plain_extents whole l.boxes)
    (plain_bundles whole l.bundles.items) l.k
    × All (IsHeldBundle g.I.IntNumber.limit) (plain_bundles whole l.bundles.items)

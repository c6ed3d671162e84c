-- The fans so far hold the edges of the boxes so far.
use Rattle.std.proofs.Common.{All}
use Rattle.overlay_order.specs.Content.{plain_edges}
use Rattle.overlay_pairs.specs.Bundles.{plain_fans, HoldsBoxRound, IsHeldFan}
use Rattle.overlay_pairs.specs.Extents.{plain_extents}
use Rattle.overlay_pairs.proofs.BundleLists.{AreBundlesUpTo}
use Rattle.overlay_pairs.proofs.fans.fans_of_size.Given as goal

abbrev pub invariant-loop-k : goal.invariant-loop-k
invariant-loop-k g l =
    let whole = g.I.IntNumber.whole in
    AreBundlesUpTo HoldsBoxRound l.size (plain_edges whole g.C.EdgeCount.counts l.edges) (plain_extents whole l.boxes)
    (plain_fans whole l.fans.items) l.k
    × All (IsHeldFan g.I.IntNumber.limit) (plain_fans whole l.fans.items)

-- The boxes so far have been searched, and the current place comes nearer to their end.
use Rattle.std.proofs.Common.{◌-◌, ◌≤◌, List, length}
use Rattle.overlay_geom.specs.Edges.{CountedEdge}
use Rattle.overlay_order.specs.Content.{plain_edge}
use Rattle.overlay_pairs.specs.Bundles.{AreBundlesOf, IsPassed}
use Rattle.overlay_pairs.specs.Extents.{plain_extent, plain_extents}
use Rattle.overlay_pairs.specs.Near.{IsSearchedBy}
use Rattle.overlay_pairs.proofs.beside.find_in_bundles.Given as goal

abbrev pub invariant-loop-at : goal.invariant-loop-at
invariant-loop-at g l =
    let whole = g.I.IntNumber.whole in
    (l.at ≤ length l.bundles.edges.items)
    × ((es : List CountedEdge) → AreBundlesOf whole g.I.IntNumber.limit es l.bundles →
    IsSearchedBy (IsPassed es (plain_edge whole g.C.EdgeCount.counts l.e) (plain_extent whole l.of))
    (plain_extents whole l.bundles.edges.items) (plain_extent whole l.of) l.at l.near.items)

abbrev pub decreases-loop-at : goal.decreases-loop-at
decreases-loop-at g l = length l.bundles.edges.items - l.at

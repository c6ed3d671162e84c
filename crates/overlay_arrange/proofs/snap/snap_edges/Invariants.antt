-- The pieces so far stand for those of the edges so far. They and the pieces to come weigh what all weigh. Strips are
-- those of the points.
use Rattle.std.proofs.Common.{◌≡◌, ◌+◌, ◌<◌, ◌^◌, List, [], drop}
use Rattle.overlay_geom.specs.Edges.{weight}
use Rattle.overlay_geom.specs.Points.{plain_points}
use Rattle.overlay_plane.specs.Carried.{Carried, edges_in}
use Rattle.overlay_plane.specs.DerivedData.{ArePieces}
use Rattle.overlay_plane.specs.SnapPoints.{snap_points}
use Rattle.overlay_order.specs.Content.{plain_edges, carried_edges}
use Rattle.overlay_parts.specs.Stores.{IsStoreReached}
use Rattle.overlay_arrange.specs.Batches.{AddsJoined}
use Rattle.overlay_arrange.specs.Cut.{chain_by, LeadingPoints}
use Rattle.overlay_arrange.specs.HotPoints.{AreStripsIfAny}
use Rattle.overlay_arrange.proofs.CoveredLoops.{weight_from}
use Rattle.overlay_arrange.proofs.snap.snap_edges.Given as goal

abbrev pub invariant-loop-i : goal.invariant-loop-i
invariant-loop-i g l =
    let plain = plain_edges g.I.IntNumber.whole g.C.EdgeCount.counts in
    let carried = carried_edges g.I.IntNumber.whole g.C.EdgeCount.counts in
    let points : LeadingPoints = snap_points (plain l.edges) in
    let Adds = AddsJoined g.C.EdgeCount.merges
    (ArePieces g.C.EdgeCount.splits g.C.EdgeCount.reverses (chain_by points)) in
    (weight (edges_in l.pieces.content)
    + weight_from g.I.IntNumber.whole g.C.EdgeCount.counts points l.edges l.hidden l.i + l.pieces.away
    ≡ weight_from g.I.IntNumber.whole g.C.EdgeCount.counts points l.edges l.hidden 0)
    × ((new : List (Carried g.row.C.Denot)) →
    Adds (carried (drop l.i l.edges)) l.pieces.content new → Adds (carried l.edges) [] new)
    × (weight (edges_in l.pieces.content) + l.pieces.away < 2 ^ 31)
    × IsStoreReached g.C.EdgeCount.writes l.initial.store l.store
    × AreStripsIfAny (plain_points g.I.IntNumber.whole l.hot) l.width (plain_points g.I.IntNumber.whole l.strips.items)

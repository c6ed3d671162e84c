-- The meeting points with the edges so far are gathered.
use Rattle.std.proofs.Common.{◌-◌, ◌<◌, ◌≤◌, length}
use Rattle.overlay_geom.specs.Edges.{CountedEdge}
use Rattle.overlay_order.specs.Content.{plain_edges}
use Rattle.overlay_pairs.specs.Places.{IsAt}
use Rattle.overlay_exact.specs.AllMet.{AreMetBefore}
use Rattle.overlay_exact.specs.Along.{plain_mets}
use Rattle.overlay_exact.proofs.meetings.push_met_behind.Given as goal

abbrev pub invariant-loop-j : goal.invariant-loop-j
invariant-loop-j g l =
    let es = plain_edges g.I.IntNumber.whole g.C.EdgeCount.counts l.edges in
    (l.i < l.j) × (l.j ≤ length l.edges) × ((e : CountedEdge) → IsAt es l.i e → AreMetBefore es l.j l.i e (plain_mets
    g.I.Wide.WideIntNumber.whole l.met.items))

abbrev pub decreases-loop-j : goal.decreases-loop-j
decreases-loop-j g l = length l.edges - l.j

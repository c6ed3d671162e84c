-- The meeting points with the passed edges so far are gathered.
use Rattle.std.proofs.Common.{map}
use Rattle.overlay_geom.specs.Edges.{CountedEdge}
use Rattle.overlay_order.specs.Content.{plain_edges}
use Rattle.overlay_pairs.specs.Places.{IsAt}
use Rattle.overlay_exact.specs.Along.{plain_mets}
use Rattle.overlay_exact.specs.Passed.{plain_passed}
use Rattle.overlay_exact.proofs.PassedEdges.{GathersPassed}
use Rattle.overlay_exact.proofs.meetings.push_met_before.Given as goal

abbrev pub invariant-loop-k : goal.invariant-loop-k
invariant-loop-k g l =
    let es = plain_edges g.I.IntNumber.whole g.C.EdgeCount.counts l.edges in
    (e : CountedEdge) → IsAt es l.i e → GathersPassed es l.i e (map (plain_passed g.I.IntNumber.whole) l.passed) l.k
    (plain_mets g.I.Wide.WideIntNumber.whole l.met.items)

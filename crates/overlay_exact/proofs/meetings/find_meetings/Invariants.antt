-- The meeting points of the edges so far stand in the list, and the edges that may meet the next one are passed.
use Rattle.std.proofs.Common.{map}
use Rattle.overlay_geom.specs.Edges.{CountedEdge}
use Rattle.overlay_order.specs.Content.{plain_edges}
use Rattle.overlay_pairs.specs.Places.{IsAt}
use Rattle.overlay_exact.specs.AllMet.{AreMetByStarts}
use Rattle.overlay_exact.specs.Along.{plain_mets}
use Rattle.overlay_exact.specs.Passed.{plain_passed, ArePassed}
use Rattle.overlay_exact.proofs.meetings.find_meetings.Given as goal

abbrev pub invariant-loop-i : goal.invariant-loop-i
invariant-loop-i g l =
    let es = plain_edges g.I.IntNumber.whole g.C.EdgeCount.counts l.edges in
    record {
      met : AreMetByStarts es l.i l.starts.items (plain_mets g.I.Wide.WideIntNumber.whole l.met.items);
      passed : (e : CountedEdge) → IsAt es l.i e →
          ArePassed es l.i e.a.x (map (plain_passed g.I.IntNumber.whole) l.passed.items);
    }

-- The sides found are those of the edges so far, and the live edges tell the windings at the next start.
use Rattle.std.proofs.Common.{◌≤◌, length}
use Rattle.overlay_geom.specs.Edges.{CountedEdge}
use Rattle.overlay_geom.specs.Rules.{is_filled}
use Rattle.overlay_order.specs.Content.{plain_edges}
use Rattle.overlay_pairs.specs.Places.{IsAt}
use Rattle.overlay_exact.specs.Along.{plain_mets}
use Rattle.overlay_exact.specs.PointWindings.{AreLive}
use Rattle.overlay_given.specs.Places.{ArePlacesBy}
use Rattle.overlay_given.specs.Walk.{AreSidesOf}
use Rattle.overlay_given.proofs.walk.find_sides.Given as goal

abbrev pub invariant-loop-i : goal.invariant-loop-i
invariant-loop-i g l =
    let es = plain_edges g.I.IntNumber.whole g.C.EdgeCount.counts l.edges in record {
      pieces : AreSidesOf (is_filled l.rule) es l.i l.pieces.items;
      places : ArePlacesBy (is_filled l.rule) es l.i l.found.starts.items
          (plain_mets g.I.Wide.WideIntNumber.whole l.found.met.items) l.places.items;
      within : l.begun ≤ length l.edges;
      live : (e : CountedEdge) → IsAt es l.i e → AreLive g.I.IntNumber.limit es l.begun e.a.x
          (plain_edges g.I.IntNumber.whole g.C.EdgeCount.counts l.live.items);
    }

-- Each query is open: no edges have told anything of it.
use Rattle.std.proofs.Common.{List}
use Rattle.std.specs.List.{All}
use Rattle.overlay_geom.specs.Edges.{CountedEdge}
use Rattle.overlay_located.specs.Queries.{plain_query, IsOpen}
use Rattle.overlay_located.proofs.query.queries_by_x.Given as goal

abbrev pub invariant-loop-place : goal.invariant-loop-place
invariant-loop-place g l =
    let whole = g.I.IntNumber.whole in
    let counts = g.C.EdgeCount.counts in
    (es : List CountedEdge) → All (λ q. IsOpen es es (plain_query whole counts q)) l.queries.items

-- Each query has to be asked for alone.
use Rattle.std.proofs.Common.{List}
use Rattle.std.specs.List.{All}
use Rattle.overlay_geom.specs.Edges.{CountedEdge}
use Rattle.overlay_located.specs.Queries.{plain_query, IsTold}
use Rattle.overlay_located.proofs.query.untold.Given as goal

abbrev pub invariant-loop-place : goal.invariant-loop-place
invariant-loop-place g l =
    let whole = g.I.IntNumber.whole in
    let counts = g.C.EdgeCount.counts in
    (es : List CountedEdge) → All (λ q. IsTold es (plain_query whole counts q)) l.told.items

-- What is told stays right.
use Rattle.std.proofs.Common.{List}
use Rattle.std.specs.List.{All}
use Rattle.overlay_geom.specs.Edges.{CountedEdge}
use Rattle.overlay_located.specs.Slabs.{plain_lines}
use Rattle.overlay_located.specs.Queries.{plain_query, IsOpen, IsTold}
use Rattle.overlay_located.proofs.query.ask_each.Given as goal

abbrev pub invariant-loop-q : goal.invariant-loop-q
invariant-loop-q g l =
    let whole = g.I.IntNumber.whole in
    let counts = g.C.EdgeCount.counts in
    (es : List CountedEdge) →
    All (λ q. IsOpen es (plain_lines whole counts l.lines) (plain_query whole counts q)) l.queries →
    All (λ q. IsTold es (plain_query whole counts q)) l.initial.told →
    All (λ q. IsTold es (plain_query whole counts q)) l.told

-- The sides of the edges swept so far are at their places, and none pass the test. The sweep may go on to the rest, and
-- the windings above the last edge are known.
use Rattle.std.proofs.Common.{◌≡◌, false, length, take, drop, get_or}
use Rattle.std.specs.List.{All}
use Rattle.overlay_scan.specs.Sweeps.{IsSwept}
use Rattle.overlay_order.specs.Content.{plain_edges}
use Rattle.overlay_geom.specs.Rules.{fill_bits}
use Rattle.overlay_graph.specs.Starts.{edges_at, numbered_at, wound_entries, AreAboveTheOneBefore}
use Rattle.overlay_graph.proofs.fill_sweep.fill_in_turn.Given as goal

abbrev pub invariant-loop-i : goal.invariant-loop-i
invariant-loop-i g l =
    let whole = g.I.IntNumber.whole in
    let counts = g.C.EdgeCount.counts in
    let es = plain_edges whole counts l.edges in
    let fs = edges_at es l.starting in
    let ns = numbered_at es l.starting in
    (length l.fills ≡ length l.edges)
    × All (λ f. IsSwept g.I.IntNumber.limit f.edge.a.x (take l.i (wound_entries fs)) (g.S.Scan.content l.scan))
    (drop l.i (wound_entries fs))
    × All (λ n. get_or l.fills n.place 0 ≡ fill_bits l.rule fs n.item) (take l.i ns)
    × AreAboveTheOneBefore fs l.i l.above
    × All (λ f. g.T.FillTest.passing l.test (fill_bits l.rule fs f) ≡ false) (take l.i fs)

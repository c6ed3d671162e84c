-- The edges so far have their filled sides, and there is room for the others.
use Rattle.std.proofs.Common.{◌≡◌, ◌≤◌, map, take, length, vec_len, vec_capacity}
use Rattle.overlay_order.specs.Content.{carried_edges}
use Rattle.overlay_graph.specs.Graphs.{carried_vectors}
use Rattle.overlay_graph.proofs.graph.with_fills.Given as goal

abbrev pub invariant-loop-i : goal.invariant-loop-i
invariant-loop-i g l =
    (carried_vectors g.I.IntNumber.whole g.C.EdgeCount.counts l.filled.items ≡ carried_edges g.I.IntNumber.whole
    g.C.EdgeCount.counts (take l.i l.edges))
    × (map (λ e. e.fill) l.filled.items ≡ take l.i l.fills)
    × (vec_len l.filled ≡ l.i) × (length l.edges ≤ vec_capacity l.filled)

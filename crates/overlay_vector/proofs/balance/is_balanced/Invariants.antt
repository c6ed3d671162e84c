-- The ends of the edges so far are balanced.
use Rattle.std.proofs.Common.{take, All}
use Rattle.overlay_order.specs.Content.{plain_edges}
use Rattle.overlay_vector.specs.Entering.{IsBalancedAt}
use Rattle.overlay_vector.proofs.balance.is_balanced.Given as goal

abbrev pub invariant-loop-edge : goal.invariant-loop-edge
invariant-loop-edge g l =
    let all = plain_edges g.I.IntNumber.whole g.C.EdgeCount.counts l.edges in
    All (λ e. IsBalancedAt all e.a × IsBalancedAt all e.b)
    (plain_edges g.I.IntNumber.whole g.C.EdgeCount.counts (take l.edge-index l.edges))

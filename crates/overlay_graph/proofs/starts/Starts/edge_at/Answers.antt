-- Each edge is held.
use Rattle.std.proofs.Common.{subst}
use Rattle.overlay_geom.proofs.Mapped.{All-mapped_at}
use Rattle.overlay_order.specs.Content.{plain_edge, IsHeld}
use Rattle.overlay_graph.proofs.starts.Starts.edge_at.Goals as goal

pub returns-then-place-self-clause-held : goal.returns-then-place-self-clause-held
returns-then-place-self-clause-held g c =
    let plain = plain_edge g.I.IntNumber.whole g.C.EdgeCount.counts in
    subst (λ (e : _). IsHeld g.I.IntNumber.limit (plain e)) c.index-self-place.is
    (All-mapped_at (IsHeld g.I.IntNumber.limit) plain c.args.self.now.edges.now c.args.place
    c.index-self-place.result c.if-place-self.true c.index-self-place.is c.args.self.now.edges_are_held)

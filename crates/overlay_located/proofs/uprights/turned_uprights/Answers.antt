-- The next edge moves from what is to come to what stands.
use Rattle.std.proofs.Common.{◌+◌, map, drop}
use Rattle.overlay_geom.specs.Resolved.{plain_edge, plain_edges}
use Rattle.overlay_geom.proofs.Mapped.{mapped_rest}
use Rattle.overlay_order.proofs.Appended.{next_appended}
use Rattle.overlay_located.specs.Once.{turned_if_upright}
use Rattle.overlay_located.proofs.uprights.turned_uprights.Goals as goal

pub loop-number-preserved : goal.loop-number-preserved
loop-number-preserved g c =
    let plain = plain_edge g.I.IntNumber.whole in
    let edges = c.args.edges.now in
    let edge = c.index-edges-number.result in
    next_appended turned_if_upright (plain_edges g.I.IntNumber.whole c.loop-number.uprights.items) _ (plain edge)
    (map plain (drop (c.loop-number.number + 1) edges)) _ _
    (mapped_rest plain edges c.loop-number.number edge c.loop-number-test.true c.index-edges-number.is)
    c.loop-number.invariant c.in_ok-push_if_upright.ensures

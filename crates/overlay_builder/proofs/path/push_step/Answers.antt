-- The edge of a step between points in range may be added.
use Rattle.overlay_geom.specs.Points.{plain_point}
use Rattle.overlay_order.specs.Content.{carried_edge}
use Rattle.overlay_builder.proofs.PassedEdges.{may_add}
use Rattle.overlay_builder.proofs.path.push_step.Goals as goal

pub push-requires-clause-held : goal.push-requires-clause-held
push-requires-clause-held g c =
    let at = plain_point g.I.IntNumber.whole in
    (may_add g.I.IntNumber.limit g.C.EdgeCount.counts c.args.passing c.requires.light
    (carried_edge g.I.IntNumber.whole g.C.EdgeCount.counts c.in-Some.edge) (at c.args.from) (at c.args.to)
    c.requires.from c.requires.to c.in-Some.ensures).held

pub push-requires-clause-light : goal.push-requires-clause-light
push-requires-clause-light g c =
    let at = plain_point g.I.IntNumber.whole in
    (may_add g.I.IntNumber.limit g.C.EdgeCount.counts c.args.passing c.requires.light
    (carried_edge g.I.IntNumber.whole g.C.EdgeCount.counts c.in-Some.edge) (at c.args.from) (at c.args.to)
    c.requires.from c.requires.to c.in-Some.ensures).light

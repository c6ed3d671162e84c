-- The midpoint's side is the sum of the two products, so it is positive where the first is above the second negated.
use Rattle.overlay_geom.specs.Edges.{ends_of}
use Rattle.overlay_geom.proofs.Midpoints.{is_left-midpoint}
use Rattle.overlay_order.specs.Content.{plain_edge}
use Rattle.overlay_graph.proofs.fill_rays.is_middle_left.Goals as goal

pub returns : goal.returns
returns g c =
    let e = ends_of (plain_edge g.I.IntNumber.whole g.C.EdgeCount.counts c.args.e.now) in
    let f = ends_of (plain_edge g.I.IntNumber.whole g.C.EdgeCount.counts c.args.f.now) in
    let left = is_left-midpoint e f _ _ _ c.cross_at-first.ensures.value c.cross_at-second.ensures.value
    c.negate.ensures in
    cc
